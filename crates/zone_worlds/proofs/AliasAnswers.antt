-- What a zone answers by an alias, and what holds of the result of a call.
use Rattle.std.proofs.Common.{◌≡◌, Bool, true, false, List, [], ◌∷◌, ◌++◌, Some, refl, sym, ap, subst, ◌∙◌}
use Rattle.std.specs.Prelude.{Result, Ok, Err, IfOk}
use Rattle.dns_core.specs.Name.{DomainName}
use Rattle.dns_core.specs.declared.errors.NoMemory.{NoMemory}
use Rattle.dns_core.specs.declared.message.Query.{Query}
use Rattle.dns_core.specs.declared.message.Message.{Message}
use Rattle.dns_core.specs.declared.record.Record.{Record}
use Rattle.zone_rules.specs.Choosing.{alias_in, owned}
use Rattle.zone_worlds.specs.Telling.{reply, Follows, AnswersByAlias, IsByAlias}
use Rattle.zone_worlds.specs.Telling.AnswersByAlias.{alone, chained}
use Rattle.zone_worlds.specs.Telling.IsByAlias.{is_by_alias}
use Rattle.zone_rules.specs.declared.world.Zone.{Zone}

pub alone_made : {z : Zone} {q : Query} {c : Record} {rs : List Record} → alias_in z q.name ≡ Some c → rs ≡ c ∷ [] → AnswersByAlias z q false rs
alone_made {z} {q} e m = subst (λ (xs : List Record). AnswersByAlias z q false xs) (sym m) (alone refl e)

pub chained_made : {z : Zone} {q : Query} {cs os rs : List Record} {last : DomainName} → Follows z [] q.name cs last → os ≡ owned z last q.query_type → rs ≡ cs ++ os → AnswersByAlias z q true rs
chained_made {z} {q} {cs} f o m = subst (λ (xs : List Record). AnswersByAlias z q true xs) (sym (m ∙ ap (λ (xs : List Record). cs ++ xs) o)) (chained refl f)

pub by_alias_made : {z : Zone} {q : Query} {chain b : Bool} {rs : List Record} {m : Message} → AnswersByAlias z q b rs → chain ≡ b → m ≡ reply q 0 true rs [] [] → IsByAlias z q chain m
by_alias_made {z} {q} {chain} {b} {rs} {m} a e same =
    subst (λ (x : Message). IsByAlias z q chain x) (sym same) (is_by_alias (subst (λ (t : Bool). AnswersByAlias z q t rs) (sym e) a))

-- ---- what holds of an answer holds of the result

pub if_ok : (r : Result Message NoMemory) (x : Message) (P : Message → Type 0) → IfOk r (λ m. m ≡ x) → P x → IfOk r P
if_ok (Ok m) x P e p = subst P (sym e) p
if_ok (Err n) x P e p = e

pub if_ok_so : (r : Result Message NoMemory) (P Q : Message → Type 0) → ((m : Message) → P m → Q m) → IfOk r P → IfOk r Q
if_ok_so (Ok m) P Q f p = f m p
if_ok_so (Err n) P Q f p = p
