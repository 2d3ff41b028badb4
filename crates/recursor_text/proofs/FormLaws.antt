-- Each line of a world that is no record line is read exactly where it is spelled so.
use Rattle.std.proofs.Common.{◌≡◌, ℕ, ◌+◌, ◌<◌, ◌≤◌, Bool, true, false, List, [], ◌∷◌, length, map, Some, refl, sym, ap, subst, ◌∙◌, arith, lit<, inl, inr}
use Rattle.std.specs.Prelude.{codes, decimal}
use Rattle.std.specs.Str.{bytes_eq}
use Rattle.std.specs.declared.net.ip_addr.IpAddr.{IpAddr}
use Rattle.dns_core.specs.NameText.{text_of as name_text}
use Rattle.zone_rules.specs.declared.world.Host.{Host}
use Rattle.text_lines.specs.Addresses.{ip_of}
use Rattle.text_lines.specs.Fields.{Fields, field, in_table, whole}
use Rattle.text_lines.specs.Numbers.{◌>>=◌, number_within}
use Rattle.text_lines.specs.Pieces.{pieces}
use Rattle.text_lines.specs.Spelling.{spelled, IsFullName, IsAddress}
use Rattle.text_lines.specs.Texts.{ip_text}
use Rattle.text_lines.specs.Lines.{delay_field}
use Rattle.text_lines.specs.LineSpelling.{most_delay}
use Rattle.recursor_text.specs.declared.world_reading.lines.WorldForm.{WorldForm}
use Rattle.recursor_text.specs.declared.world_reading.lines.WorldForm.TheVariants as form
use Rattle.recursor_text.specs.Counts.{numeral}
use Rattle.recursor_text.specs.Lines.{most_zones, alias_words, zone_fields, head_from, rising, zone_numbers, delay_of, aliases_of, zone_of, host_of, world_forms_of, world_form_of, starts_world, is_world_line}
use Rattle.recursor_text.specs.WorldSpelling.{delay_words, alias_text, aliases_words, zone_words, host_words, RiseWithin}
use Rattle.text_lines.proofs.AddressLaws.{ip_field}
use Rattle.text_lines.proofs.StepsThatFail.{bind_some, guard_some, some_is, chosen}
use Rattle.text_lines.proofs.PlainLaws.{AllBytes, AllPlain, pieces_take}
use Rattle.text_lines.proofs.NumberLaws.{is_word_byte}
use Rattle.text_lines.proofs.FieldLaws.{IsField, IsSeq, one, pair_law, table_field, whole_takes, whole_again, IsWithin, number_field, bytes_same}
use Rattle.text_lines.proofs.WordLaws.{full_law, low, address_plain, named_plain, small, words_again}
use Rattle.recursor_text.proofs.CountLaws.{Any, numeral_field, numeral_plain}

-- ---- what the words say

abbrev pub form_words : WorldForm → List (List ℕ)
form_words (form.Delay n) = delay_words n
form_words (form.Aliases chain) = aliases_words chain
form_words (form.Zone h) = zone_words h.apex h.count
form_words (form.Host h) = host_words h

-- a host, without regard to how many zones there are
pub record IsHostLine (h : Host) : Type 0 where
  pub address : IsAddress h.ip
  pub some : 0 < length h.zones
  pub rise : RiseWithin 1 most_zones h.zones

abbrev pub IsForm : WorldForm → Type 0
IsForm (form.Delay n) = n ≤ most_delay
IsForm (form.Aliases chain) = Unit {0}
IsForm (form.Zone h) = IsFullName h.apex
IsForm (form.Host h) = IsHostLine h

-- ---- the law of each kind

delay_law : IsSeq delay_field (λ n. decimal n ∷ []) (IsWithin 0 most_delay)
delay_law = one _ _ _ (number_field 0 most_delay (lit< tt))

abbrev any : Bool → Type 0
any chain = Unit {0}

alias_again : (chain : Bool) → any chain → in_table alias_words (alias_text chain) ≡ Some chain
alias_again false fits = refl
alias_again true fits = refl

alias_law : IsSeq (field (in_table alias_words)) (λ chain. alias_text chain ∷ []) any
alias_law = one _ _ _ (table_field alias_text any alias_words ((refl, tt), ((refl, tt), tt)) alias_again)

zone_law : IsSeq zone_fields (λ x. name_text x.0 ∷ numeral x.1 ∷ []) (λ x. IsFullName x.0 × Any x.1)
zone_law = pair_law _ _ _ _ _ _ full_law (one _ _ _ numeral_field)

ip_law : IsSeq (field ip_of) (λ a. ip_text a ∷ []) IsAddress
ip_law = one _ _ _ ip_field

-- ---- the numbers of zones

zone_field : (low : ℕ) → IsField (number_within low most_zones) decimal (IsWithin low most_zones)
zone_field low = number_field low most_zones (lit< tt)

abbrev SpellNumbers : ℕ → List (List ℕ) → List ℕ → Type 0
SpellNumbers low ws ns = (ws ≡ map decimal ns) × RiseWithin low most_zones ns

rising_takes : (low : ℕ) (ws : List (List ℕ)) (ns : List ℕ) → rising low ws ≡ Some ns → SpellNumbers low ws ns
rising_takes low [] ns e = subst (SpellNumbers low []) (some_is [] ns e) (refl, tt)
rising_takes low (w ∷ ws) ns e =
    let b = bind_some (number_within low most_zones w) (λ n. rising (n + 1) ws >>= λ ms. Some (n ∷ ms)) ns e in
    let c = bind_some (rising (b.0 + 1) ws) (λ ms. Some (b.0 ∷ ms)) ns b.2 in
    let t = (zone_field low).takes w b.0 b.1 in
    let r = rising_takes (b.0 + 1) ws c.0 c.1 in
    let spelt : w ∷ ws ≡ map decimal (b.0 ∷ c.0) = ap (λ (v : List ℕ). v ∷ ws) t.0 ∙ ap (λ (l : List (List ℕ)). decimal b.0 ∷ l) r.0 in
    subst (SpellNumbers low (w ∷ ws)) (some_is (b.0 ∷ c.0) ns c.2) (spelt, (t.1.0, t.1.1, r.1))

rising_again : (low : ℕ) (ns : List ℕ) → RiseWithin low most_zones ns → rising low (map decimal ns) ≡ Some ns
rising_again low [] all = refl
rising_again low (n ∷ ns) all = rw ((zone_field low).again n (all.0, all.1), rising_again (n + 1) ns all.2) refl

some_numbers : (w : List ℕ) (ws : List (List ℕ)) (ns : List ℕ) → w ∷ ws ≡ map decimal ns → 0 < length ns
some_numbers w ws [] e = absurd cc
some_numbers w ws (n ∷ ns) e = omega arith

numbers_take : (ws : List (List ℕ)) (ns : List ℕ) → zone_numbers 1 ws ≡ Some ns → SpellNumbers 1 ws ns × (0 < length ns)
numbers_take [] ns e = absurd cc
numbers_take (w ∷ ws) ns e = let t = rising_takes 1 (w ∷ ws) ns e in (t, some_numbers w ws ns t.0)

numbers_again : (ns : List ℕ) → 0 < length ns → RiseWithin 1 most_zones ns → zone_numbers 1 (map decimal ns) ≡ Some ns
numbers_again [] some all = absurd (omega arith)
numbers_again (n ∷ ns) some all = rising_again 1 (n ∷ ns) all

numbers_plain : (low : ℕ) (ns : List ℕ) → RiseWithin low most_zones ns → AllPlain is_word_byte (map decimal ns)
numbers_plain low [] all = tt
numbers_plain low (n ∷ ns) all = (small most_zones n all.1 (lit< tt), numbers_plain (n + 1) ns all.2)

-- ---- all kinds

abbrev Spells : List (List ℕ) → WorldForm → Type 0
Spells ws z = (ws ≡ form_words z) × IsForm z

kind_takes : {X : Type 0} (key : List ℕ) (p : Fields X) (text : X → List (List ℕ)) (Fits : X → Type 0) → IsSeq p text Fits → (f : X → WorldForm)
    → ((x : X) → form_words (f x) ≡ key ∷ text x) → ((x : X) → Fits x → IsForm (f x)) → (w : List ℕ) (ws : List (List ℕ)) (z : WorldForm) → bytes_eq w key ≡ true → whole p f ws ≡ Some z → Spells (w ∷ ws) z
kind_takes key p text Fits law f words suits w ws z same e =
    let t = whole_takes p text Fits law f ws z e in
    let spelt : w ∷ ws ≡ form_words (f t.0) = ap (λ (v : List ℕ). v ∷ ws) (bytes_same w key same) ∙ ap (λ (r : List (List ℕ)). key ∷ r) t.1 ∙ sym (words t.0) in
    subst (Spells (w ∷ ws)) t.3 (spelt, suits t.0 t.2)

abbrev host : IpAddr → List ℕ → Host
host ip zones = record { ip = ip; zones = zones }

host_takes : (w : List ℕ) (ws : List (List ℕ)) (z : WorldForm) → bytes_eq w (codes "host") ≡ true → host_of ws ≡ Some z → Spells (w ∷ ws) z
unfolding host_of
host_takes w ws z same e =
    let b = bind_some (field ip_of ws) (λ x. zone_numbers 1 x.1 >>= λ ns. Some (form.Host (host x.0 ns))) z e in
    let c = bind_some (zone_numbers 1 b.0.1) (λ ns. Some (form.Host (host b.0.0 ns))) z b.2 in
    let t = ip_law.takes ws b.0.0 b.0.1 b.1 in
    let n = numbers_take b.0.1 c.0 c.1 in
    let spelt : w ∷ ws ≡ host_words (host b.0.0 c.0) =
    ap (λ (v : List ℕ). v ∷ ws) (bytes_same w (codes "host") same) ∙ ap (λ (r : List (List ℕ)). codes "host" ∷ r) (t.0 ∙ ap (λ (r : List (List ℕ)). ip_text b.0.0 ∷ r) n.0.0) in
    subst (Spells (w ∷ ws)) (some_is (form.Host (host b.0.0 c.0)) z c.2) (spelt, record { address = t.1; some = n.1; rise = n.0.1 })

forms_take : (ws : List (List ℕ)) (z : WorldForm) → world_forms_of ws ≡ Some z → Spells ws z
unfolding world_forms_of delay_of aliases_of zone_of
forms_take [] z e = absurd cc
forms_take (w ∷ ws) z e = elim (chosen (bytes_eq w (codes "host")) _ _ _ e) [
  | inl h ↦ host_takes w ws z h.0 h.1
  | inr h ↦ elim (chosen (bytes_eq w (codes "zone")) _ _ _ h.1) [
    | inl h ↦ kind_takes (codes "zone") zone_fields _ _ zone_law (λ x. form.Zone (head_from x)) (λ x. refl) (λ x fits. fits.0) w ws z h.0 h.1
    | inr h ↦ elim (chosen (bytes_eq w (codes "delay")) _ _ _ h.1) [
      | inl h ↦ kind_takes (codes "delay") delay_field _ _ delay_law form.Delay (λ x. refl) (λ x fits. fits.1) w ws z h.0 h.1
      | inr h ↦ let g = guard_some (bytes_eq w (codes "aliases")) (aliases_of ws) z h.1 in
          kind_takes (codes "aliases") (field (in_table alias_words)) _ _ alias_law form.Aliases (λ x. refl) (λ x fits. fits) w ws z g.0 g.1
    ]
  ]
]

pub form_takes : (line : List ℕ) (z : WorldForm) → world_form_of line ≡ Some z → (line ≡ spelled (form_words z)) × IsForm z
form_takes line z e = let t = forms_take (pieces 32 line) z e in (pieces_take 32 line (form_words z) t.0, t.1)

-- ---- again

host_again : (h : Host) → IsHostLine h → world_forms_of (host_words h) ≡ Some (form.Host h)
unfolding world_forms_of host_of
host_again h fits = rw (ip_law.again h.ip (map decimal h.zones) fits.address, numbers_again h.zones fits.some fits.rise) refl

forms_again : (z : WorldForm) → IsForm z → world_forms_of (form_words z) ≡ Some z
unfolding world_forms_of delay_of aliases_of zone_of
forms_again (form.Delay n) fits = whole_again _ _ _ delay_law form.Delay n (low most_delay n fits)
forms_again (form.Aliases chain) fits = whole_again _ _ _ alias_law form.Aliases chain tt
forms_again (form.Zone h) fits = whole_again _ _ _ zone_law (λ x. form.Zone (head_from x)) (h.apex, h.count) (fits, tt)
forms_again (form.Host h) fits = host_again h fits

alias_plain : (chain : Bool) → AllBytes is_word_byte (alias_text chain)
alias_plain false = refl
alias_plain true = refl

pub form_plain : (z : WorldForm) → IsForm z → AllPlain is_word_byte (form_words z)
form_plain (form.Delay n) fits = (refl, (small most_delay n fits (lit< tt), tt))
form_plain (form.Aliases chain) fits = (refl, (alias_plain chain, tt))
form_plain (form.Zone h) fits = (refl, (named_plain h.apex fits.0, (numeral_plain h.count, tt)))
form_plain (form.Host h) fits = (refl, (address_plain h.ip fits.address, numbers_plain 1 h.zones fits.rise))

form_some : (z : WorldForm) → 0 < length (form_words z)
form_some (form.Delay n) = lit< tt
form_some (form.Aliases chain) = lit< tt
form_some (form.Zone h) = lit< tt
form_some (form.Host h) = omega arith

pub form_again : (z : WorldForm) → IsForm z → world_form_of (spelled (form_words z)) ≡ Some z
form_again z fits = ap world_forms_of (words_again (form_words z) (form_some z) (form_plain z fits)) ∙ forms_again z fits

words_start : (z : WorldForm) → starts_world (form_words z) ≡ true
unfolding starts_world
words_start (form.Delay n) = refl
words_start (form.Aliases chain) = refl
words_start (form.Zone h) = refl
words_start (form.Host h) = refl

-- a line that is read has the first word of one
pub form_starts : (line : List ℕ) (z : WorldForm) → world_form_of line ≡ Some z → is_world_line line ≡ true
form_starts line z e =
    let t = form_takes line z e in
    ap is_world_line t.0 ∙ ap starts_world (words_again (form_words z) (form_some z) (form_plain z t.1)) ∙ words_start z
