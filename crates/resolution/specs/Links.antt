-- Chains of aliases: from the question of a reply to the question that its last response answers (RFC 1034 section 3.6.2).
use Rattle.std.specs.Prelude.{◌≡◌, ℕ, Bool, List, [], ◌∷◌, map}
use Rattle.dns_core.specs.Name.{DomainName}
use Rattle.dns_core.specs.Log.{Log}
use Rattle.dns_core.specs.Stripping.{strip_of}
use Rattle.dns_core.specs.declared.message.Query.{Query}
use Rattle.dns_core.specs.declared.message.Message.{Message}
use Rattle.recursor_types.specs.declared.policy.Policy.{Policy}
use Rattle.resolution.specs.Following.{follow}
use Rattle.resolution.specs.Answering.{Base, IsCurrent, with_name, joined}
use Rattle.resolution.specs.Walking.{Walked}
use Rattle.resolution.specs.declared.verdict.Verdict.TheVariants.{Pos}
use Rattle.resolution.specs.declared.following.Follow.TheVariants.{Restart}

-- a question, and the response whose aliases lead on from it
pub record Link : Type 0 where
  pub query : Query
  pub entry : ℕ
  pub kept : Message

-- Each response is by a server of the deepest cut for its question, and its aliases lead to the next one.
pub data Linked (policy : Policy) (log : Log) (asked_at : ℕ) : Query → List Link → Query → Type 0 where
  here : {query : Query} → Linked policy log asked_at query [] query
  on_by_alias : {query last : Query} {entry : ℕ} {zone target : DomainName} {kept : Message} {links : List Link}
      → (b : Base policy log asked_at query entry zone (Pos kept)) → Walked policy log query zone → IsCurrent asked_at b.moment kept
      → follow kept query ≡ Restart target → Linked policy log asked_at (with_name target query) links last
      → Linked policy log asked_at query (record { query = query; entry = entry; kept = kept } ∷ links) last

-- The links lead to the question that is answered last. No alias is followed yet: there is none.
pub record AliasesLeadTo (policy : Policy) (log : Log) (asked_at : ℕ) (query : Query) (links : List Link) (last : Query) : Type 0 where
  pub linked : Linked policy log asked_at query links last
  pub none : links ≡ []

abbrev pub entries_of_links : List Link → List ℕ
entries_of_links links = map (λ (l : Link). l.entry) links

-- the responses of the links, each less the DNSSEC records that were not asked for, and the answers of the last one behind them
abbrev pub merged : Bool → List Link → Message → Message
merged dnssec [] reply = reply
merged dnssec (l ∷ links) reply = joined (strip_of l.kept dnssec) l.query (merged dnssec links reply)
