-- By the asked type and the alias of the first name: whether a question is led on at all.
use Rattle.std.proofs.Common.{◌≡◌, ◌∙◌, sym, ap, suc, Bool, true, false, List, [], length, Option, Some, None}
use Rattle.std.specs.Prelude.{◌||◌, ◌==◌, if◌then◌else◌}
use Rattle.dns_core.specs.Name.{DomainName}
use Rattle.dns_core.specs.declared.message.Query.{Query}
use Rattle.dns_core.specs.declared.message.Message.{Message}
use Rattle.dns_core.specs.declared.record.Record.{Record}
use Rattle.resolution.specs.Following.{alias_at, follow_from, follow}
use Rattle.resolution.specs.declared.following.Follow.{Follow}
use Rattle.resolution.specs.declared.following.Follow.TheVariants.{Done}

abbrev led_on : Bool → Option DomainName → Follow → Follow
led_on final first on = if final then Done else elim first [ None ↦ Done | Some target ↦ on ]

module _ (m : Message) (q : Query) where
  abbrev from_first : List Record → Follow
  from_first answers = follow_from (suc (length answers)) answers q.query_type [] q.name

  by_type : (final : Bool) → (q.query_type.code == 5 || q.query_type.code == 255) ≡ final → follow m q ≡ led_on final (alias_at m.answers q.name) (from_first m.answers)
  by_type final e = ap (λ (b : Bool). led_on b (alias_at m.answers q.name) (from_first m.answers)) e

  by_alias : (answers : List Record) (first : Option DomainName) → answers ≡ m.answers → (q.query_type.code == 5 || q.query_type.code == 255) ≡ false → alias_at answers q.name ≡ first
      → follow m q ≡ led_on false first (from_first m.answers)
  by_alias answers first same e leads =
      by_type false e ∙ ap (λ (o : Option DomainName). led_on false o (from_first m.answers)) (sym (ap (λ (rs : List Record). alias_at rs q.name) same) ∙ leads)

  -- A question for CNAME or for all types is not.
  pub not_led_by_type : (q.query_type.code == 5 || q.query_type.code == 255) ≡ true → follow m q ≡ Done
  not_led_by_type e = by_type true e

  -- One whose name has no alias is not.
  pub not_led_by_name : (answers : List Record) → answers ≡ m.answers → (q.query_type.code == 5 || q.query_type.code == 255) ≡ false → alias_at answers q.name ≡ None → follow m q ≡ Done
  not_led_by_name answers same e leads = by_alias answers None same e leads

  -- Any other is, from its name on.
  pub led_by_alias : (answers : List Record) (target : DomainName) → answers ≡ m.answers → (q.query_type.code == 5 || q.query_type.code == 255) ≡ false → alias_at answers q.name ≡ Some target
      → follow m q ≡ follow_from (suc (length answers)) answers q.query_type [] q.name
  led_by_alias answers target same e leads = by_alias answers (Some target) same e leads ∙ ap from_first (sym same)
