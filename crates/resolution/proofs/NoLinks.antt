-- A chain of no link: its question is the one that is answered last, by any log.
use Rattle.std.proofs.Common.{◌≡◌, ℕ, List, [], refl}
use Rattle.dns_core.specs.Log.{Log}
use Rattle.dns_core.specs.declared.message.Query.{Query}
use Rattle.recursor_types.specs.declared.policy.Policy.{Policy}
use Rattle.resolution.specs.Links.{Link, Linked, AliasesLeadTo}
use Rattle.resolution.specs.Links.Linked.{here, on_by_alias}

-- no alias leads on
pub leads-here : {policy : Policy} {log : Log} {asked_at : ℕ} {query : Query} → AliasesLeadTo policy log asked_at query [] query
leads-here = record { linked = here; none = refl }

ends-by : {policy : Policy} {log : Log} {asked_at : ℕ} {query last : Query} {links : List Link} → Linked policy log asked_at query links last → links ≡ [] → last ≡ query
ends-by here none = refl
ends-by (on_by_alias base walked current follows linked) none = cc

-- the question that is answered last is the first
pub ends-here : {policy : Policy} {log : Log} {asked_at : ℕ} {query last : Query} {links : List Link} → AliasesLeadTo policy log asked_at query links last → last ≡ query
ends-here leads = ends-by leads.linked leads.none

linked-by : {policy other : Policy} {log longer : Log} {asked_at earlier : ℕ} {query last : Query} {links : List Link} → Linked policy log asked_at query links last → links ≡ []
    → Linked other longer earlier query links last
linked-by here none = here
linked-by (on_by_alias base walked current follows linked) none = cc

-- it leads there by another log too
pub leads-anywhere : {policy other : Policy} {log longer : Log} {asked_at earlier : ℕ} {query last : Query} {links : List Link} → AliasesLeadTo policy log asked_at query links last
    → AliasesLeadTo other longer earlier query links last
leads-anywhere leads = record { linked = linked-by leads.linked leads.none; none = leads.none }
