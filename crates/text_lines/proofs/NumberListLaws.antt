-- Lists of numbers: what a word spells is read again, and what is read is spelled so.
use Rattle.std.proofs.Common.{◌≡◌, ℕ, ◌+◌, ◌^◌, ◌<◌, ◌≤◌, Bool, true, false, eqb, List, [], ◌∷◌, length, map, Some, refl, sym, ap, subst, ◌∙◌, arith, lit<, inl, inr}
use Rattle.std.specs.Prelude.{codes, decimal}
use Rattle.std.specs.Char.{is_ascii_digit}
use Rattle.std.specs.Str.{bytes_eq}
use Rattle.std.specs.List.{list_all, AllByRecursion}
use Rattle.std.proofs.lemmas.Bool.{cases_Bool}
use Rattle.text_lines.specs.NumberLists.{each_port, ports_of, each_delay, delays_of}
use Rattle.text_lines.specs.Numbers.{◌>>=◌, number_within}
use Rattle.text_lines.specs.Pieces.{pieces}
use Rattle.text_lines.specs.Spelling.{numbers_text, ArePorts, AreFirstDelays}
use Rattle.text_lines.proofs.StepsThatFail.{bind_some, some_is, chosen}
use Rattle.text_lines.proofs.TextIsCut.{split_cons}
use Rattle.text_lines.proofs.FieldLaws.{IsField, bytes_same, IsWithin, number_field}
use Rattle.text_lines.proofs.NumberLaws.{is_word_byte, decimal_digits, decimal_plain}
use Rattle.text_lines.proofs.PlainLaws.{AllBytes, AllPlain, pieces_again, pieces_take, joined_plain}

-- ---- the text of a list

abbrev AreWide : List ℕ → Type 0
AreWide ns = AllByRecursion (λ n. n < 2 ^ 64) ns

numbers_plain : (q : ℕ → Bool) → ((n : ℕ) → n < 2 ^ 64 → AllBytes q (decimal n)) → (ns : List ℕ) → AreWide ns → AllPlain q (map decimal ns)
numbers_plain q plain [] all = tt
numbers_plain q plain (n ∷ ns) all = (plain n all.0, numbers_plain q plain ns all.1)

-- the items of a list are its numbers
items_again : (n : ℕ) (ns : List ℕ) → AreWide (n ∷ ns) → pieces 44 (numbers_text (n ∷ ns)) ≡ map decimal (n ∷ ns)
items_again n ns all = pieces_again is_ascii_digit 44 (decimal n) (map decimal ns) refl (numbers_plain is_ascii_digit decimal_digits (n ∷ ns) all)

joined : (w : List ℕ) (ns : List ℕ) → pieces 44 w ≡ map decimal ns → w ≡ numbers_text ns
joined w [] e = let c = split_cons (λ b. eqb b 44) w in absurd (let both : [] ≡ c.0 ∷ c.1 = sym e ∙ c.2 in cc)
joined w (n ∷ ns) e = pieces_take 44 w (map decimal (n ∷ ns)) e

-- a word has at least one item
has_items : (w : List ℕ) (ns : List ℕ) → pieces 44 w ≡ map decimal ns → 0 < length ns
has_items w [] e = let c = split_cons (λ b. eqb b 44) w in absurd (let both : [] ≡ c.0 ∷ c.1 = sym e ∙ c.2 in cc)
has_items w (n ∷ ns) e = omega arith

-- a number is no dash
no_dash : (n : ℕ) → n < 2 ^ 64 → decimal n ≡ codes "-" → ⊥
no_dash n wide e = absurd (let both : true ≡ false = sym (decimal_digits n wide) ∙ ap (list_all is_ascii_digit) e in cc)

first_is : (v w : List ℕ) (vs ws : List (List ℕ)) → v ∷ vs ≡ w ∷ ws → v ≡ w
first_is v w vs ws e = cc

-- numbers are no dash
not_dash : (n : ℕ) (ns : List ℕ) → AreWide (n ∷ ns) → bytes_eq (numbers_text (n ∷ ns)) (codes "-") ≡ false
not_dash n ns all = elim (cases_Bool (bytes_eq (numbers_text (n ∷ ns)) (codes "-"))) [
  | inl dash ↦
      let cut : pieces 44 (numbers_text (n ∷ ns)) ≡ codes "-" ∷ [] = ap (pieces 44) (bytes_same (numbers_text (n ∷ ns)) (codes "-") dash) in
      absurd (no_dash n all.0 (first_is (decimal n) (codes "-") (map decimal ns) [] (sym (items_again n ns all) ∙ cut)))
  | inr other ↦ other
]

text_plain : (ns : List ℕ) → AreWide ns → AllBytes is_word_byte (numbers_text ns)
text_plain [] all = refl
text_plain (n ∷ ns) all = joined_plain is_word_byte 44 (map decimal (n ∷ ns)) refl (numbers_plain is_word_byte decimal_plain (n ∷ ns) all)

-- ---- ports

port_field : (low : ℕ) → IsField (number_within low 65535) decimal (IsWithin low 65535)
port_field low = number_field low 65535 (lit< tt)

abbrev SpellPorts : ℕ → List (List ℕ) → List ℕ → Type 0
SpellPorts low ws ports = (ws ≡ map decimal ports) × ArePorts low ports

each_port_takes : (low : ℕ) (ws : List (List ℕ)) (ports : List ℕ) → each_port low ws ≡ Some ports → SpellPorts low ws ports
each_port_takes low [] ports e = subst (SpellPorts low []) (some_is [] ports e) (refl, tt)
each_port_takes low (w ∷ ws) ports e =
    let b = bind_some (number_within low 65535 w) (λ n. each_port (n + 1) ws >>= λ ms. Some (n ∷ ms)) ports e in
    let c = bind_some (each_port (b.0 + 1) ws) (λ ms. Some (b.0 ∷ ms)) ports b.2 in
    let t = (port_field low).takes w b.0 b.1 in
    let r = each_port_takes (b.0 + 1) ws c.0 c.1 in
    let spelt : w ∷ ws ≡ map decimal (b.0 ∷ c.0) = ap (λ (v : List ℕ). v ∷ ws) t.0 ∙ ap (λ (l : List (List ℕ)). decimal b.0 ∷ l) r.0 in
    subst (SpellPorts low (w ∷ ws)) (some_is (b.0 ∷ c.0) ports c.2) (spelt, (t.1.0, t.1.1, r.1))

each_port_again : (low : ℕ) (ports : List ℕ) → ArePorts low ports → each_port low (map decimal ports) ≡ Some ports
each_port_again low [] all = refl
each_port_again low (port ∷ ports) all = rw ((port_field low).again port (all.0, all.1), each_port_again (port + 1) ports all.2) refl

wide_ports : (low : ℕ) (ports : List ℕ) → ArePorts low ports → AreWide ports
wide_ports low [] all = tt
wide_ports low (port ∷ ports) all = let small : port ≤ 65535 = all.1 in (omega arith, wide_ports (port + 1) ports all.2)

ports_take : (w : List ℕ) (ports : List ℕ) → ports_of w ≡ Some ports → (w ≡ numbers_text ports) × ArePorts 0 ports
ports_take w ports e = elim (chosen (bytes_eq w (codes "-")) (Some []) (each_port 0 (pieces 44 w)) (Some ports) e) [
  | inl h ↦ subst (λ (l : List ℕ). (w ≡ numbers_text l) × ArePorts 0 l) (some_is [] ports h.1) (bytes_same w (codes "-") h.0, tt)
  | inr h ↦ let t = each_port_takes 0 (pieces 44 w) ports h.1 in (joined w ports t.0, t.1)
]

ports_again : (ports : List ℕ) → ArePorts 0 ports → ports_of (numbers_text ports) ≡ Some ports
ports_again [] all = refl
ports_again (port ∷ ports) all =
    let wide = wide_ports 0 (port ∷ ports) all in
    rw (not_dash port ports wide) (ap (each_port 0) (items_again port ports wide) ∙ each_port_again 0 (port ∷ ports) all)

pub ports_are : IsField ports_of numbers_text (ArePorts 0)
ports_are = record { takes = ports_take; again = ports_again }

pub ports_plain : (ports : List ℕ) → ArePorts 0 ports → AllBytes is_word_byte (numbers_text ports)
ports_plain ports all = text_plain ports (wide_ports 0 ports all)

-- ---- first delays

delay_field : IsField (number_within 1 31) decimal (IsWithin 1 31)
delay_field = number_field 1 31 (lit< tt)

abbrev AreDelays : List ℕ → Type 0
AreDelays delays = AllByRecursion (λ delay. (1 ≤ delay) × (delay ≤ 31)) delays

abbrev SpellDelays : List (List ℕ) → List ℕ → Type 0
SpellDelays ws delays = (ws ≡ map decimal delays) × AreDelays delays

each_delay_takes : (ws : List (List ℕ)) (delays : List ℕ) → each_delay ws ≡ Some delays → SpellDelays ws delays
each_delay_takes [] delays e = subst (SpellDelays []) (some_is [] delays e) (refl, tt)
each_delay_takes (w ∷ ws) delays e =
    let b = bind_some (number_within 1 31 w) (λ n. each_delay ws >>= λ ms. Some (n ∷ ms)) delays e in
    let c = bind_some (each_delay ws) (λ ms. Some (b.0 ∷ ms)) delays b.2 in
    let t = delay_field.takes w b.0 b.1 in
    let r = each_delay_takes ws c.0 c.1 in
    let spelt : w ∷ ws ≡ map decimal (b.0 ∷ c.0) = ap (λ (v : List ℕ). v ∷ ws) t.0 ∙ ap (λ (l : List (List ℕ)). decimal b.0 ∷ l) r.0 in
    subst (SpellDelays (w ∷ ws)) (some_is (b.0 ∷ c.0) delays c.2) (spelt, (t.1, r.1))

each_delay_again : (delays : List ℕ) → AreDelays delays → each_delay (map decimal delays) ≡ Some delays
each_delay_again [] all = refl
each_delay_again (delay ∷ delays) all = rw (delay_field.again delay all.0, each_delay_again delays all.1) refl

wide_delays : (delays : List ℕ) → AreDelays delays → AreWide delays
wide_delays [] all = tt
wide_delays (delay ∷ delays) all = let small : delay ≤ 31 = all.0.1 in (omega arith, wide_delays delays all.1)

delays_take : (w : List ℕ) (delays : List ℕ) → delays_of w ≡ Some delays → (w ≡ numbers_text delays) × AreFirstDelays delays
delays_take w delays e =
    let t = each_delay_takes (pieces 44 w) delays e in
    (joined w delays t.0, record { some = has_items w delays t.0; each = t.1 })

delays_again : (delays : List ℕ) → AreFirstDelays delays → delays_of (numbers_text delays) ≡ Some delays
delays_again [] fits = absurd (let some : 0 < 0 = fits.some in omega arith)
delays_again (delay ∷ delays) fits = ap each_delay (items_again delay delays (wide_delays (delay ∷ delays) fits.each)) ∙ each_delay_again (delay ∷ delays) fits.each

pub delays_are : IsField delays_of numbers_text AreFirstDelays
delays_are = record { takes = delays_take; again = delays_again }

pub delays_plain : (delays : List ℕ) → AreFirstDelays delays → AllBytes is_word_byte (numbers_text delays)
delays_plain delays fits = text_plain delays (wide_delays delays fits.each)
