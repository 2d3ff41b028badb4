-- What an address tells is one message.
use Rattle.std.proofs.Common.{◌≡◌, Bool, true, List, [], ◌∷◌, ◌++◌, Some, None, refl, ap, subst, ◌∙◌}
use Rattle.std.specs.declared.net.IpAddr.{IpAddr}
use Rattle.dns_core.specs.Name.{DomainName}
use Rattle.dns_core.specs.declared.message.Query.{Query}
use Rattle.dns_core.specs.declared.message.Message.{Message}
use Rattle.dns_core.specs.declared.record.Record.{Record}
use Rattle.zone_rules.specs.Choosing.{owned}
use Rattle.zone_worlds.specs.Telling.{child_of, reply, referral, Follows, AnswersByAlias, IsByAlias, Replies, Tells}
use Rattle.zone_worlds.specs.Telling.Follows.{ends, leads}
use Rattle.zone_worlds.specs.Telling.AnswersByAlias.{alone, chained}
use Rattle.zone_worlds.specs.Telling.IsByAlias.{is_by_alias}
use Rattle.zone_worlds.specs.Telling.Replies.{denies, by_alias, gives, lacks}
use Rattle.zone_worlds.specs.Telling.Tells.{refuses, refers, answers}
use Rattle.zone_rules.specs.declared.world.Zone.{Zone}
use Rattle.zone_rules.specs.declared.world.World.{World}

-- the aliases of a zone and the records at their end
abbrev whole : Zone → Query → List Record → DomainName → List Record
whole z q cs last = cs ++ owned z last q.query_type

follows-one : {z : Zone} {met : List DomainName} {n : DomainName} {cs ds : List Record} {a b : DomainName} (q : Query) → Follows z met n cs a → Follows z met n ds b → whole z q cs a ≡ whole z q ds b
follows-one q (ends e) (ends e') = refl
follows-one q (ends e) (leads e' t' f') = cc
follows-one q (leads e t f) (ends e') = cc
follows-one {z = z} {met = met} {n = n} {b = b} q (leads {t = t} {last = a} {c = c} {cs = cs} e g f) (leads {t = t'} {c = c'} {cs = ds} e' g' f') =
    let one : c ≡ c' = cc in
    let same : t' ≡ t = cc in
    let rest = follows-one q f (subst (λ (x : DomainName). Follows z (met ++ n ∷ []) x ds b) same f') in
    ap (λ (x : Record). x ∷ whole z q cs a) one ∙ ap (λ (xs : List Record). c' ∷ xs) rest

alias-one : {z : Zone} {q : Query} {chain : Bool} {rs ss : List Record} → AnswersByAlias z q chain rs → AnswersByAlias z q chain ss → rs ≡ ss
alias-one (alone {c = c} f e) (alone {c = d} f' e') = let one : c ≡ d = cc in ap (λ (x : Record). x ∷ []) one
alias-one (alone f e) (chained f' e') = cc
alias-one (chained f e) (alone f' e') = cc
alias-one {q = q} (chained f e) (chained f' e') = follows-one q e e'

by_alias-one : {z : Zone} {q : Query} {chain : Bool} {m l : Message} → IsByAlias z q chain m → IsByAlias z q chain l → m ≡ l
by_alias-one {q = q} (is_by_alias a) (is_by_alias b) = ap (λ (rs : List Record). reply q 0 true rs [] []) (alias-one a b)

replies-one : {w : World} {z : Zone} {q : Query} {m l : Message} → Replies w z q m → Replies w z q l → m ≡ l
replies-one (denies e) (denies e') = refl
replies-one (denies e) (by_alias e' a' m') = cc
replies-one (denies e) (gives e' a' o') = cc
replies-one (denies e) (lacks e' a' o') = cc
replies-one (by_alias e a m) (denies e') = cc
replies-one (by_alias e a m) (by_alias e' a' m') = by_alias-one m m'
replies-one (by_alias e a m) (gives e' a' o') = cc
replies-one (by_alias e a m) (lacks e' a' o') = cc
replies-one (gives e a o) (denies e') = cc
replies-one (gives e a o) (by_alias e' a' m') = cc
replies-one (gives e a o) (gives e' a' o') = refl
replies-one (gives e a o) (lacks e' a' o') = cc
replies-one (lacks e a o) (denies e') = cc
replies-one (lacks e a o) (by_alias e' a' m') = cc
replies-one (lacks e a o) (gives e' a' o') = cc
replies-one (lacks e a o) (lacks e' a' o') = refl

-- an address tells one message for a question
pub tells-one : (w : World) (ip : IpAddr) (q : Query) (m l : Message) → Tells w ip q m → Tells w ip q l → m ≡ l
tells-one w ip q m l t s = same t s
  where
    same : {m l : Message} → Tells w ip q m → Tells w ip q l → m ≡ l
    same (refuses z) (refuses z') = refl
    same (refuses z) (refers z' c') = cc
    same (refuses z) (answers z' c' r') = cc
    same (refers z c) (refuses z') = cc
    same (refers {z = y} {child = b} z c) (refers {z = y'} {child = b'} z' c') =
        let zone : y ≡ y' = cc in
        let moved : child_of w y' q ≡ Some b = subst (λ (x : Zone). child_of w x q ≡ Some b) zone c in
        let child : b ≡ b' = cc in
        ap (λ (x : Zone). referral x q) child
    same (refers {z = y} {child = b} z c) (answers {z = y'} z' c' r') =
        let zone : y ≡ y' = cc in
        let moved : child_of w y' q ≡ Some b = subst (λ (x : Zone). child_of w x q ≡ Some b) zone c in
        cc
    same (answers z c r) (refuses z') = cc
    same (answers {z = y} z c r) (refers {z = y'} {child = b'} z' c') =
        let zone : y ≡ y' = cc in
        let moved : child_of w y' q ≡ None = subst (λ (x : Zone). child_of w x q ≡ None) zone c in
        cc
    same {l = l} (answers {z = y} z c r) (answers {z = y'} z' c' r') =
        let zone : y' ≡ y = cc in
        replies-one r (subst (λ (x : Zone). Replies w x q l) zone r')
