-- The records of a message, section by section.
use Rattle.std.proofs.Common.{◌≡◌, Bool, refl, ap, ◌∙◌, ◌++◌, Option, Some, None, Bor}
use Rattle.std.specs.Prelude.{◌||◌, find}
use Rattle.std.specs.List.{list_any}
use Rattle.std.specs.Option.{option_or, option_copied}
use Rattle.std.proofs.lemmas.List.Folds.{list_any-append, find-append}
use Rattle.dns_core.specs.declared.record.Record.{Record}
use Rattle.dns_core.specs.declared.message.Message.{Message}
use Rattle.resolution.specs.Records.{records}

pub any-records : (p : Record → Bool) (m : Message) → list_any p (records m) ≡ ((list_any p m.answers || list_any p m.authorities) || list_any p m.additionals)
any-records p m = list_any-append p (m.answers ++ m.authorities) m.additionals ∙ ap (λ b. b || list_any p m.additionals) (list_any-append p m.answers m.authorities)

pub find-records : (p : Record → Bool) (m : Message) → find p (records m) ≡ option_or (option_or (find p m.answers) (find p m.authorities)) (find p m.additionals)
find-records p m = find-append p (m.answers ++ m.authorities) m.additionals ∙ ap (λ o. option_or o (find p m.additionals)) (find-append p m.answers m.authorities)

pub copied-or : {X : Type 0} (a b : Option (Bor X)) → option_copied (option_or a b) ≡ option_or (option_copied a) (option_copied b)
copied-or None b = refl
copied-or (Some x) b = refl
