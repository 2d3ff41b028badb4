-- The state in which the hash of a key begins.
use Rattle.std.specs.Hash.DefaultHasher.{initial}
use Rattle.std.specs.declared.hash.DefaultHasher.{DefaultHasher}
use Rattle.std.specs.RandomState.{initial_hasher}
use Rattle.recent_cache.specs.declared.hash_keys.HashKeys.{HashKeys}
use Rattle.recent_cache.specs.declared.hash_keys.HashKeys.TheVariants.{Fixed, Given}

abbrev pub first_state : HashKeys → DefaultHasher
first_state Fixed = initial
first_state (Given keys) = initial_hasher keys
