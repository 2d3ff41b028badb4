-- What reading gives stands there, and what follows it is a rest.
use Rattle.std.proofs.Common.{ℕ, List, Result, Ok, Err, IfOk}
use Rattle.dns_core.specs.Name.{DomainName}
use Rattle.wire_names.specs.Kept.{IsRest}
use Rattle.wire_names.specs.Names.{IsName}
use Rattle.wire_names.specs.declared.errors.WireError.{WireError}
use Rattle.wire_names.specs.Reading.{Gives, name_of}
use Rattle.wire_names.proofs.RunLaws.{IsBytes}
use Rattle.wire_names.proofs.NameLaws.{name_found, rest_of_name}

pub is_found : {X : Type 0} (view : X → DomainName × List ℕ) (message bytes : List ℕ) (r : Result X WireError) → IsBytes message → IsBytes bytes → Gives view r (name_of message bytes) → IfOk r (λ x. IsName message bytes (view x).0 (view x).1)
is_found view message bytes (Ok x) fits these given = name_found message bytes (view x).0 (view x).1 fits these given
is_found view message bytes (Err e) fits these given = tt

pub is_rest : {X : Type 0} (view : X → DomainName × List ℕ) (message bytes : List ℕ) (r : Result X WireError) → IsBytes message → IsBytes bytes → IsRest message bytes → Gives view r (name_of message bytes) → IfOk r (λ x. IsRest message (view x).1)
is_rest view message bytes (Ok x) fits these is given = rest_of_name message bytes (view x).0.labels (view x).1 is (name_found message bytes (view x).0 (view x).1 fits these given).named
is_rest view message bytes (Err e) fits these is given = tt
