-- What the deepest zone answers of itself is what the world answers.
use Rattle.std.proofs.Common.{◌≡◌, Bool, true, false, cond, List, [], length, Option, Some, None, refl, sym, ap, subst, ◌∙◌}
use Rattle.std.specs.Prelude.{◌==◌, ◌&&◌, ◌||◌, if◌then◌else◌, filter}
use Rattle.dns_core.specs.Name.{same_names}
use Rattle.resolution.specs.Following.{is_owned}
use Rattle.dns_core.specs.declared.message.Query.{Query}
use Rattle.dns_core.specs.declared.message.Message.{Message}
use Rattle.dns_core.specs.declared.record.Record.{Record}
use Rattle.zone_rules.specs.Tree.{zone_of, exists_in}
use Rattle.zone_rules.specs.Choosing.{owned, alias_in}
use Rattle.zone_rules.specs.declared.world.Zone.{Zone}
use Rattle.zone_rules.specs.declared.world.World.{World}
use Rattle.zone_rules.specs.declared.world.WorldAnswer.{WorldAnswer}
use Rattle.zone_rules.specs.declared.world.WorldAnswer.TheVariants.{Records, NxDomain, NoData}
use Rattle.zone_worlds.specs.Answer.{alias_for, data_of, found, after, Answers}
use Rattle.zone_worlds.specs.Answer.Leads.{arrives}
use Rattle.zone_worlds.specs.Answer.Answers.{ends}
use Rattle.zone_worlds.specs.Telling.{alias_of, Replies}
use Rattle.zone_worlds.specs.Telling.Replies.{denies, by_alias, gives, lacks}
use Rattle.world_facts.specs.Deepest.{IsFromDeepest}
use Rattle.world_facts.specs.Answering.{TellsAnswer}
use Rattle.world_facts.specs.Answering.TellsAnswer.{data_there, no_data, no_name}

-- what the world answers where the name is no alias
plain : (w : World) (q : Query) (a : WorldAnswer) → alias_for w q ≡ None → found w q ≡ a → Answers w q (Some (after [] a))
plain w q a alone is = subst (λ (x : WorldAnswer). Answers w q (Some (after [] x))) is (ends (arrives refl alone))

-- where the type is not ANY, the records of the type are those of this very type
of_the_type : (z : Zone) (q : Query) → (q.query_type.code == 255) ≡ false → filter (is_owned q.query_type q.name) z.records ≡ owned z q.name q.query_type
of_the_type z q other =
    sym (ap (λ (b : Bool). filter (λ r. same_names r.name q.name && (b || r.record_type.code == q.query_type.code)) z.records) other)

-- what the world answers at a name that is there, by its deepest zone
there : (w : World) (q : Query) (z : Zone) → zone_of w q ≡ Some z → (q.query_type.code == 255) ≡ false → exists_in w q.name ≡ true
    → found w q ≡ data_of (owned z q.name q.query_type)
there w q z deepest other e =
    ap (λ (b : Bool). if b then elim (zone_of w q) [ None ↦ NoData | Some z ↦ data_of (filter (is_owned q.query_type q.name) z.records) ] else NxDomain) e
    ∙ ap (λ (o : Option Zone). elim o [ None ↦ NoData | Some z ↦ data_of (filter (is_owned q.query_type q.name) z.records) ]) deepest
    ∙ ap data_of (of_the_type z q other)

nothing : (rs : List Record) → (length rs == 0) ≡ true → data_of rs ≡ NoData
nothing rs e = ap (λ (b : Bool). if b then NoData else Records rs) e

something : (rs : List Record) → (length rs == 0) ≡ false → data_of rs ≡ Records rs
something rs e = ap (λ (b : Bool). if b then NoData else Records rs) e

-- the deepest zone and the world see one alias of a name, but for questions of all types
pub alias_is : (w : World) (q : Query) (z : Zone) → zone_of w q ≡ Some z → (q.query_type.code == 255) ≡ false → alias_of z q ≡ alias_for w q
alias_is w q z deepest other =
    ap (λ (b : Bool). if (q.query_type.code == 5) || b then None else alias_in z q.name) other ∙ chosen (q.query_type.code == 5)
    ∙ sym (ap (λ (o : Option Zone). if q.query_type.code == 5 then None else elim o [ None ↦ None | Some z ↦ alias_in z q.name ]) deepest)
  where
    chosen : (b : Bool) → cond (b || false) None (alias_in z q.name) ≡ cond b None (alias_in z q.name)
    chosen true = refl
    chosen false = refl

pub as_world : (w : World) (q : Query) (m : Message) → IsFromDeepest w q m → alias_for w q ≡ None → (q.query_type.code == 255) ≡ false → TellsAnswer w q m
as_world w q m d alone other = by d.replies
  where
    by : {m : Message} → Replies w d.zone q m → TellsAnswer w q m
    by (denies e) = no_name (plain w q NxDomain alone (ap (λ (b : Bool). if b then elim (zone_of w q) [ None ↦ NoData | Some z ↦ data_of (filter (is_owned q.query_type q.name) z.records) ] else NxDomain) e)) refl refl
    by (lacks e a o) = no_data (plain w q NoData alone (there w q d.zone d.deepest other e ∙ nothing (owned d.zone q.name q.query_type) o)) refl refl
    by (gives e a o) = data_there (plain w q (Records (owned d.zone q.name q.query_type)) alone (there w q d.zone d.deepest other e ∙ something (owned d.zone q.name q.query_type) o))
    by (by_alias {c = c} e a b) = let both_are : None ≡ Some c = sym alone ∙ sym (alias_is w q d.zone d.deepest other) ∙ a in cc
