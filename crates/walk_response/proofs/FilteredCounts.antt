-- What a filter of answers leaves of a response counts for what the response counts for, or shows that it leaves nothing.
use Rattle.std.proofs.Common.{◌≡◌, Bool, true, false, cond, Option, Some, None, Result, Ok, Err, refl, sym, ap, subst, ◌∙◌}
use Rattle.std.proofs.lemmas.Option.{same_Some, none-some}
use Rattle.std.specs.Prelude.{find, if◌then◌else◌}
use Rattle.std.specs.declared.net.ip_addr.IpAddr.{IpAddr}
use Rattle.dns_core.specs.Name.{DomainName}
use Rattle.dns_core.specs.declared.message.Query.{Query}
use Rattle.dns_core.specs.declared.message.Message.{Message}
use Rattle.dns_core.specs.declared.record.Record.{Record}
use Rattle.dns_core.specs.declared.net_error.DnsError.{DnsError}
use Rattle.dns_core.specs.declared.net_error.DnsError.TheVariants as dns
use Rattle.resolution.specs.Records.{records}
use Rattle.resolution.specs.Class.{class_of_classified, is_foreign}
use Rattle.resolution.specs.Verdict.{allows_all}
use Rattle.resolution.specs.Verdict.{verdict_of_told, verdict_of_class, verdict_of_message, is_all_denied, without_denied, in_bailiwick, is_emptied}
use Rattle.resolution.specs.declared.class.Class.{Class}
use Rattle.resolution.specs.declared.class.Class.TheVariants.{Error, Code, Truncated, Negative as NoData, Foreign, Positive}
use Rattle.resolution.specs.declared.verdict.Verdict.{Verdict}
use Rattle.resolution.specs.declared.verdict.Verdict.TheVariants.{Pos, Neg, Made}
use Rattle.resolution.specs.declared.verdict.Cause.TheVariants.{Filter, Zone}
use Rattle.walk_response.specs.Shown.{IsShown, nothing_left_for, left_of_class}
use Rattle.walk_response.proofs.NothingIsDenied.{verdict_allowed}

-- What is left of a message counts without a filter as the message counts with it, where anything is left.
left_counts : (denied : IpAddr → Bool) (m : Message) (zone : DomainName) → is_all_denied denied m ≡ false
    → verdict_of_message denied m zone ≡ verdict_of_message allows_all (without_denied denied m) zone
left_counts denied m zone some =
    let kept = without_denied denied m in
    ap (λ (b : Bool). if b then Made Filter else (if is_emptied kept (in_bailiwick zone kept) then Made Zone else Pos (in_bailiwick zone kept))) some
    ∙ sym (verdict_allowed kept zone)

-- each verdict but one that the zone made is shown as it is
shown_itself : (q : Query) (v : Verdict) → IsShown q v v
shown_itself q (Pos a) = refl
shown_itself q (Neg a) = refl
shown_itself q (Made a) = refl

-- what counts of a message that was told as one
told_counts : (m : Message) (zone : DomainName) (v : Verdict) (cut : Bool) (o : Option Record)
    → verdict_of_told allows_all (Some (cond cut Truncated (elim o [ Some r ↦ Foreign r | None ↦ Positive m ]))) zone ≡ Some v → verdict_of_message allows_all m zone ≡ v
told_counts m zone v true o counts = absurd (none-some v counts)
told_counts m zone v false (Some r) counts = absurd (none-some v counts)
told_counts m zone v false None counts = same_Some _ _ counts

-- what the filter leaves of a message, where it leaves something or nothing
left_of_message : (denied : IpAddr → Bool) (q : Query) (m : Message) (zone : DomainName) (v : Verdict) (all : Bool) → is_all_denied denied m ≡ all
    → verdict_of_told allows_all (Some (class_of_classified q (if all then Err (dns.NoRecordsFound (nothing_left_for q)) else Ok (without_denied denied m)))) zone ≡ Some v
    → (whole : Verdict) × (Some (verdict_of_message denied m zone) ≡ Some whole) × IsShown q v whole
left_of_message denied q m zone v true is counts =
    let kept = without_denied denied m in
    let made : verdict_of_message denied m zone ≡ Made Filter = ap (λ (b : Bool). if b then Made Filter else (if is_emptied kept (in_bailiwick zone kept) then Made Zone else Pos (in_bailiwick zone kept))) is in
    (Made Filter, ap Some made, subst (λ (w : Verdict). IsShown q w (Made Filter)) (same_Some _ _ counts) refl)
left_of_message denied q m zone v false is counts =
    let kept = without_denied denied m in
    let same : verdict_of_message denied m zone ≡ v = left_counts denied m zone is ∙ told_counts kept zone v kept.truncation (find (is_foreign q) (records kept)) counts in
    (v, ap Some same, shown_itself q v)

-- the verdict of what the filter of answers leaves of a response shows that of the response
pub left_shown : (denied : IpAddr → Bool) (q : Query) (response : Class) (class : Result Message DnsError) (zone : DomainName) (v : Verdict)
    → left_of_class denied q response ≡ Some class → verdict_of_told allows_all (Some (class_of_classified q class)) zone ≡ Some v
    → (whole : Verdict) × (verdict_of_class denied response zone ≡ Some whole) × IsShown q v whole
left_shown denied q (Positive m) class zone v left counts =
    left_of_message denied q m zone v (is_all_denied denied m) refl
    (subst (λ (c : Result Message DnsError). verdict_of_told allows_all (Some (class_of_classified q c)) zone ≡ Some v) (sym (same_Some _ _ left)) counts)
left_shown denied q (NoData n) class zone v left counts =
    let told = subst (λ (c : Result Message DnsError). verdict_of_told allows_all (Some (class_of_classified q c)) zone ≡ Some v) (sym (same_Some _ _ left)) counts in
    (v, told, shown_itself q v)
left_shown denied q (Error e) class zone v left counts = cc
left_shown denied q (Code c) class zone v left counts = cc
left_shown denied q Truncated class zone v left counts = cc
left_shown denied q (Foreign r) class zone v left counts = cc
