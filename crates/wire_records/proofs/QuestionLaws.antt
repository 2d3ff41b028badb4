-- A question that is read stands there, and one that stands there is read.
use Rattle.std.proofs.Common.{◌≡◌, ℕ, ◌+◌, ◌*◌, ◌/◌, ◌%◌, List, ◌++◌, Ok, ap, subst, ◌∙◌}
use Rattle.dns_core.specs.Name.{DomainName}
use Rattle.dns_core.specs.declared.message.Query.{Query}
use Rattle.wire_names.specs.Names.{NameAt, IsName}
use Rattle.wire_names.specs.Reading.{◌>>=◌, name_of}
use Rattle.wire_names.proofs.Binds.{bind_ok, ok_is}
use Rattle.wire_names.proofs.NameLaws.{name_found, name_again, front_of}
use Rattle.wire_names.proofs.RunLaws.{IsBytes}
use Rattle.wire_records.specs.Numbers.{two, Read, two_of}
use Rattle.wire_records.specs.Records.{QuestionAt}
use Rattle.wire_records.specs.Reading.{question_of}
use Rattle.wire_records.proofs.Following.{Follows, bytes_after}
use Rattle.wire_records.proofs.NumberLaws.{two_takes, two_follows, two_joined}

pub name_follows : {message bytes : List ℕ} {labels : List (List ℕ)} {rest : List ℕ} → NameAt message bytes labels rest → Follows bytes rest
name_follows named = let f = front_of named in record { front = f.0; parts = f.1 }

abbrev query_from : DomainName → ℕ → ℕ → Query
query_from name code class = record { name = name; query_type = record { code = code }; query_class = record { code = class } }

pub question_takes : (message bytes : List ℕ) (x : Query × List ℕ) → IsBytes message → IsBytes bytes → question_of message bytes ≡ Ok x → QuestionAt message bytes x.0 x.1
question_takes message bytes x fits these e =
    let typed : DomainName × List ℕ → Read Query = λ n. two_of n.1 >>= λ t. two_of t.1 >>= λ c. Ok (query_from n.0 t.0 c.0, c.1) in
    let n = bind_ok (name_of message bytes) typed x e in
    let found = name_found message bytes n.0.0 n.0.1 fits these n.1 in
    let after = bytes_after bytes n.0.1 these (name_follows found.named) in
    let classed : ℕ × List ℕ → Read Query = λ t. two_of t.1 >>= λ c. Ok (query_from n.0.0 t.0 c.0, c.1) in
    let t = bind_ok (two_of n.0.1) classed x n.2 in
    let last : ℕ × List ℕ → Read Query = λ c. Ok (query_from n.0.0 t.0.0 c.0, c.1) in
    let c = bind_ok (two_of t.0.1) last x t.2 in
    let parts = two_takes n.0.1 t.0 after t.1 ∙ ap (λ (r : List ℕ). two t.0.0 ++ r) (two_takes t.0.1 c.0 (bytes_after n.0.1 t.0.1 after (two_follows n.0.1 t.0 t.1)) c.1) in
    let made : QuestionAt message bytes (query_from n.0.0 t.0.0 c.0.0) c.0.1 = (n.0.1, found, parts) in
    subst (λ (y : Query × List ℕ). QuestionAt message bytes y.0 y.1) (ok_is (query_from n.0.0 t.0.0 c.0.0, c.0.1) x c.2) made

-- a name that stands there is read, and then what follows it
pub name_then : (message bytes : List ℕ) (name : DomainName) (after tail : List ℕ) → IsName message bytes name after → after ≡ tail → name_of message bytes ≡ Ok (name, tail)
name_then message bytes name after tail is same = subst (λ (r : List ℕ). name_of message bytes ≡ Ok (name, r)) same (name_again message bytes name after is)

pub question_again : (message bytes : List ℕ) (query : Query) (rest : List ℕ) → QuestionAt message bytes query rest → question_of message bytes ≡ Ok (query, rest)
question_again message bytes query rest at =
    let named = name_then message bytes query.name at.0 (two query.query_type.code ++ (two query.query_class.code ++ rest)) at.1 at.2 in
    rw named (
    ap (λ (k : ℕ). Ok (query_from query.name k (256 * (query.query_class.code / 256) + query.query_class.code % 256), rest)) (two_joined query.query_type.code)
    ∙ ap (λ (k : ℕ). Ok (query_from query.name query.query_type.code k, rest)) (two_joined query.query_class.code))
