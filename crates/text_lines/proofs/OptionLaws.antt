-- Option lines: each is read exactly where it is spelled so, in bytes that no line is cut at; their
-- ranks, and what they change.
use Rattle.std.proofs.Common.{◌≡◌, ℕ, suc, ◌+◌, ◌-◌, ◌<◌, ◌≤◌, Bool, true, false, List, [], ◌∷◌, ◌++◌, length, take, get_or, slice_get, Some, refl, sym, ap, subst, ◌∙◌, arith, lit<, inl, inr}
use Rattle.std.proofs.lemmas.List.{take_more}
use Rattle.std.proofs.lemmas.Option.{same_Some}
use Rattle.std.specs.Prelude.{codes, decimal}
use Rattle.std.specs.Str.{bytes_eq}
use Rattle.std.specs.List.{AllByRecursion}
use Rattle.recursor_types.specs.declared.options.RecursorOptions.{RecursorOptions}
use Rattle.text_lines.specs.declared.lines.option_form.Bounds.{Bounds}
use Rattle.text_lines.specs.declared.lines.option_form.OptionLine.{OptionLine}
use Rattle.text_lines.specs.declared.lines.option_form.OptionLine.TheVariants.{ResponseCacheSize, RecursionLimit, NsRecursionLimit, AllowAnswers, DenyAnswers, AllowServer, DenyServer, AvoidLocalUdpPorts, PositiveTtl, NegativeTtl, CaseRandomization, EdnsPayloadLen, FirstDelays}
use Rattle.text_lines.specs.Texts.{flag_text}
use Rattle.text_lines.specs.Fields.{Fields, field, in_table, whole, wide_field}
use Rattle.text_lines.specs.Numbers.{◌>>=◌, number_within}
use Rattle.text_lines.specs.OptionForm.{size_field, limit_field, nets_field, ports_field, switches, switch_field, payload_field, delays_field, bounds_fields, response_cache_size_of, recursion_limit_of, ns_recursion_limit_of, allow_answers_of, deny_answers_of, allow_server_of, deny_server_of, avoid_local_udp_ports_of, positive_ttl_of, negative_ttl_of, case_randomization_of, edns_payload_len_of, first_delays_of, later_option_of, option_line_of}
use Rattle.text_lines.specs.Spelling.{nets_text, numbers_text, IsNet, ArePorts, AreFirstDelays}
use Rattle.text_lines.specs.LineSpelling.{bounds_words, named_words, IsBounds, IsOption, option_rank, RiseAbove, last_rank, standard_options, changed, changed_by, options_with}
use Rattle.text_lines.proofs.StepsThatFail.{bind_some, guard_some, some_is, chosen}
use Rattle.text_lines.proofs.FieldLaws.{IsField, IsSeq, one, whole_takes, whole_again, IsWithin, number_field, bytes_same, table_field}
use Rattle.text_lines.proofs.NetLaws.{nets_are, nets_plain}
use Rattle.text_lines.proofs.NumberLaws.{is_word_byte}
use Rattle.text_lines.proofs.NumberListLaws.{ports_are, ports_plain, delays_are, delays_plain}
use Rattle.text_lines.proofs.PlainLaws.{AllBytes, AllPlain}
use Rattle.text_lines.proofs.WordLaws.{wide_law, low, small}

-- ---- each line

size_law : IsSeq size_field (λ n. decimal n ∷ []) (IsWithin 0 4194304)
size_law = one _ _ _ (number_field 0 4194304 (lit< tt))

limit_law : IsSeq limit_field (λ n. decimal n ∷ []) (IsWithin 0 255)
limit_law = one _ _ _ (number_field 0 255 (lit< tt))

nets_law : IsSeq nets_field (λ ns. nets_text ns ∷ []) (λ ns. AllByRecursion IsNet ns)
nets_law = one _ _ _ nets_are

ports_law : IsSeq ports_field (λ ps. numbers_text ps ∷ []) (ArePorts 0)
ports_law = one _ _ _ ports_are

switch_is_field : IsField (in_table switches) flag_text (λ on. Unit {0})
switch_is_field = table_field _ _ switches ((refl, tt), ((refl, tt), tt)) again
  where
    again : (on : Bool) → Unit {0} → in_table switches (flag_text on) ≡ Some on
    again false fits = refl
    again true fits = refl

switch_law : IsSeq switch_field (λ on. flag_text on ∷ []) (λ on. Unit {0})
switch_law = one _ _ _ switch_is_field

payload_law : IsSeq payload_field (λ n. decimal n ∷ []) (IsWithin 0 65535)
payload_law = one _ _ _ (number_field 0 65535 (lit< tt))

delays_law : IsSeq delays_field (λ ds. numbers_text ds ∷ []) AreFirstDelays
delays_law = one _ _ _ delays_are

-- a number from this one on
above_law : (least : ℕ) → IsSeq (field (number_within least 4294967295)) (λ n. decimal n ∷ []) (IsWithin least 4294967295)
above_law least = one _ _ _ (number_field least 4294967295 (lit< tt))

abbrev both_bounds : ℕ → ℕ → Bounds
both_bounds least most = record { least = least; most = most }

bounds_law : IsSeq bounds_fields bounds_words IsBounds
bounds_law = record {
  takes = λ ws b rest e.
      let x = bind_some (wide_field ws) (λ x. field (number_within x.0 4294967295) x.1 >>= λ y. Some (both_bounds x.0 y.0, y.1)) (b, rest) e in
      let y = bind_some (field (number_within x.0.0 4294967295) x.0.1) (λ y. Some (both_bounds x.0.0 y.0, y.1)) (b, rest) x.2 in
      let s = wide_law.takes ws x.0.0 x.0.1 x.1 in
      let t = (above_law x.0.0).takes x.0.1 y.0.0 y.0.1 y.1 in
      let made : Bounds × List (List ℕ) = (both_bounds x.0.0 y.0.0, y.0.1) in
      let split : ws ≡ bounds_words made.0 ++ made.1 = s.0 ∙ ap (λ (r : List (List ℕ)). decimal x.0.0 ∷ r) t.0 in
      subst (λ (z : Bounds × List (List ℕ)). (ws ≡ bounds_words z.0 ++ z.1) × IsBounds z.0) (some_is made (b, rest) y.2) (split, record { ordered = t.1.0; wide = t.1.1 });
  again = λ b rest fits.
      let ordered : b.least ≤ b.most = fits.ordered in
      let wide : b.most ≤ 4294967295 = fits.wide in
      rw (wide_law.again b.least (decimal b.most ∷ rest) (omega arith, omega arith), (above_law b.least).again b.most rest (ordered, wide)) refl;
}

-- an option of this name, and its value
named_takes : {X : Type 0} (key : List ℕ) (p : Fields X) (text : X → List (List ℕ)) (Fits : X → Type 0) → IsSeq p text Fits → (f : X → OptionLine)
    → ((x : X) → named_words (f x) ≡ key ∷ text x) → ((x : X) → Fits x → IsOption (f x)) → (w : List ℕ) (ws : List (List ℕ)) (o : OptionLine) → bytes_eq w key ≡ true → whole p f ws ≡ Some o → (w ∷ ws ≡ named_words o) × IsOption o
named_takes key p text Fits law f words suits w ws o same e =
    let t = whole_takes p text Fits law f ws o e in
    let spelt : w ∷ ws ≡ named_words (f t.0) = ap (λ (v : List ℕ). v ∷ ws) (bytes_same w key same) ∙ ap (λ (r : List (List ℕ)). key ∷ r) t.1 ∙ sym (words t.0) in
    subst (λ (p : OptionLine). (w ∷ ws ≡ named_words p) × IsOption p) t.3 (spelt, suits t.0 t.2)

later_takes : (w : List ℕ) (ws : List (List ℕ)) (o : OptionLine) → later_option_of w ws ≡ Some o → (w ∷ ws ≡ named_words o) × IsOption o
unfolding later_option_of avoid_local_udp_ports_of positive_ttl_of negative_ttl_of case_randomization_of edns_payload_len_of first_delays_of
later_takes w ws o e = elim (chosen (bytes_eq w (codes "avoid_local_udp_ports")) _ _ _ e) [
  | inl h ↦ named_takes (codes "avoid_local_udp_ports") ports_field _ _ ports_law AvoidLocalUdpPorts (λ ps. refl) (λ ps fits. fits) w ws o h.0 h.1
  | inr h ↦ elim (chosen (bytes_eq w (codes "positive_ttl")) _ _ _ h.1) [
    | inl h ↦ named_takes (codes "positive_ttl") bounds_fields _ _ bounds_law PositiveTtl (λ b. refl) (λ b fits. fits) w ws o h.0 h.1
    | inr h ↦ elim (chosen (bytes_eq w (codes "negative_ttl")) _ _ _ h.1) [
      | inl h ↦ named_takes (codes "negative_ttl") bounds_fields _ _ bounds_law NegativeTtl (λ b. refl) (λ b fits. fits) w ws o h.0 h.1
      | inr h ↦ elim (chosen (bytes_eq w (codes "case_randomization")) _ _ _ h.1) [
        | inl h ↦ named_takes (codes "case_randomization") switch_field _ _ switch_law CaseRandomization (λ b. refl) (λ b fits. fits) w ws o h.0 h.1
        | inr h ↦ elim (chosen (bytes_eq w (codes "edns_payload_len")) _ _ _ h.1) [
          | inl h ↦ named_takes (codes "edns_payload_len") payload_field _ _ payload_law EdnsPayloadLen (λ n. refl) (λ n fits. fits.1) w ws o h.0 h.1
          | inr h ↦ let g = guard_some (bytes_eq w (codes "first_delays")) (first_delays_of ws) o h.1 in
              named_takes (codes "first_delays") delays_field _ _ delays_law FirstDelays (λ ds. refl) (λ ds fits. fits) w ws o g.0 g.1
        ]
      ]
    ]
  ]
]

pub option_takes : (ws : List (List ℕ)) (o : OptionLine) → option_line_of ws ≡ Some o → (ws ≡ named_words o) × IsOption o
unfolding option_line_of response_cache_size_of recursion_limit_of ns_recursion_limit_of allow_answers_of deny_answers_of allow_server_of deny_server_of
option_takes [] o e = absurd cc
option_takes (w ∷ ws) o e = elim (chosen (bytes_eq w (codes "response_cache_size")) _ _ _ e) [
  | inl h ↦ named_takes (codes "response_cache_size") size_field _ _ size_law ResponseCacheSize (λ n. refl) (λ n fits. fits.1) w ws o h.0 h.1
  | inr h ↦ elim (chosen (bytes_eq w (codes "recursion_limit")) _ _ _ h.1) [
    | inl h ↦ named_takes (codes "recursion_limit") limit_field _ _ limit_law RecursionLimit (λ n. refl) (λ n fits. fits.1) w ws o h.0 h.1
    | inr h ↦ elim (chosen (bytes_eq w (codes "ns_recursion_limit")) _ _ _ h.1) [
      | inl h ↦ named_takes (codes "ns_recursion_limit") limit_field _ _ limit_law NsRecursionLimit (λ n. refl) (λ n fits. fits.1) w ws o h.0 h.1
      | inr h ↦ elim (chosen (bytes_eq w (codes "allow_answers")) _ _ _ h.1) [
        | inl h ↦ named_takes (codes "allow_answers") nets_field _ _ nets_law AllowAnswers (λ ns. refl) (λ ns fits. fits) w ws o h.0 h.1
        | inr h ↦ elim (chosen (bytes_eq w (codes "deny_answers")) _ _ _ h.1) [
          | inl h ↦ named_takes (codes "deny_answers") nets_field _ _ nets_law DenyAnswers (λ ns. refl) (λ ns fits. fits) w ws o h.0 h.1
          | inr h ↦ elim (chosen (bytes_eq w (codes "allow_server")) _ _ _ h.1) [
            | inl h ↦ named_takes (codes "allow_server") nets_field _ _ nets_law AllowServer (λ ns. refl) (λ ns fits. fits) w ws o h.0 h.1
            | inr h ↦ elim (chosen (bytes_eq w (codes "deny_server")) _ _ _ h.1) [
              | inl h ↦ named_takes (codes "deny_server") nets_field _ _ nets_law DenyServer (λ ns. refl) (λ ns fits. fits) w ws o h.0 h.1
              | inr h ↦ later_takes w ws o h.1
            ]
          ]
        ]
      ]
    ]
  ]
]

pub option_again : (o : OptionLine) → IsOption o → option_line_of (named_words o) ≡ Some o
unfolding option_line_of later_option_of response_cache_size_of recursion_limit_of ns_recursion_limit_of allow_answers_of deny_answers_of allow_server_of deny_server_of avoid_local_udp_ports_of positive_ttl_of negative_ttl_of case_randomization_of edns_payload_len_of first_delays_of
option_again (ResponseCacheSize size) fits = whole_again _ _ _ size_law ResponseCacheSize size (low 4194304 size fits)
option_again (RecursionLimit most) fits = whole_again _ _ _ limit_law RecursionLimit most (low 255 most fits)
option_again (NsRecursionLimit most) fits = whole_again _ _ _ limit_law NsRecursionLimit most (low 255 most fits)
option_again (AllowAnswers nets) fits = whole_again _ _ _ nets_law AllowAnswers nets fits
option_again (DenyAnswers nets) fits = whole_again _ _ _ nets_law DenyAnswers nets fits
option_again (AllowServer nets) fits = whole_again _ _ _ nets_law AllowServer nets fits
option_again (DenyServer nets) fits = whole_again _ _ _ nets_law DenyServer nets fits
option_again (AvoidLocalUdpPorts ports) fits = whole_again _ _ _ ports_law AvoidLocalUdpPorts ports fits
option_again (PositiveTtl b) fits = whole_again _ _ _ bounds_law PositiveTtl b fits
option_again (NegativeTtl b) fits = whole_again _ _ _ bounds_law NegativeTtl b fits
option_again (CaseRandomization on) fits = whole_again _ _ _ switch_law CaseRandomization on fits
option_again (EdnsPayloadLen bytes) fits = whole_again _ _ _ payload_law EdnsPayloadLen bytes (low 65535 bytes fits)
option_again (FirstDelays delays) fits = whole_again _ _ _ delays_law FirstDelays delays fits

bounds_plain : (b : Bounds) → IsBounds b → AllPlain is_word_byte (bounds_words b)
bounds_plain b fits =
    let ordered : b.least ≤ b.most = fits.ordered in
    let wide : b.most ≤ 4294967295 = fits.wide in
    (small 4294967295 b.least (omega arith) (lit< tt), (small 4294967295 b.most wide (lit< tt), tt))

switch_plain : (on : Bool) → AllBytes is_word_byte (flag_text on)
switch_plain false = refl
switch_plain true = refl

pub option_plain : (o : OptionLine) → IsOption o → AllPlain is_word_byte (named_words o)
option_plain (ResponseCacheSize size) fits = (refl, (small 4194304 size fits (lit< tt), tt))
option_plain (RecursionLimit most) fits = (refl, (small 255 most fits (lit< tt), tt))
option_plain (NsRecursionLimit most) fits = (refl, (small 255 most fits (lit< tt), tt))
option_plain (AllowAnswers nets) fits = (refl, (nets_plain nets fits, tt))
option_plain (DenyAnswers nets) fits = (refl, (nets_plain nets fits, tt))
option_plain (AllowServer nets) fits = (refl, (nets_plain nets fits, tt))
option_plain (DenyServer nets) fits = (refl, (nets_plain nets fits, tt))
option_plain (AvoidLocalUdpPorts ports) fits = (refl, (ports_plain ports fits, tt))
option_plain (PositiveTtl b) fits = (refl, bounds_plain b fits)
option_plain (NegativeTtl b) fits = (refl, bounds_plain b fits)
option_plain (CaseRandomization on) fits = (refl, (switch_plain on, tt))
option_plain (EdnsPayloadLen bytes) fits = (refl, (small 65535 bytes fits (lit< tt), tt))
option_plain (FirstDelays delays) fits = (refl, (delays_plain delays fits, tt))

-- ---- one line more

pub rise_push : (low : ℕ) (os : List OptionLine) (o : OptionLine) → RiseAbove low os → last_rank low os < option_rank o → RiseAbove low (os ++ o ∷ [])
rise_push low [] o rise lt = (lt, tt)
rise_push low (p ∷ os) o rise lt = (rise.0, rise_push (option_rank p) os o rise.1 lt)

pub last_push : (low : ℕ) (os : List OptionLine) (o : OptionLine) → last_rank low (os ++ o ∷ []) ≡ option_rank o
last_push low [] o = refl
last_push low (p ∷ os) o = last_push (option_rank p) os o

-- the last line has the last rank
pub last_is : (low : ℕ) (os : List OptionLine) (o : OptionLine) → Some o ≡ slice_get os (length os - 1) → option_rank o ≡ last_rank low os
last_is low [] o h = cc
last_is low (p ∷ []) o h = ap option_rank (same_Some _ _ h)
last_is low (p ∷ q ∷ os) o h =
    let next : length (p ∷ q ∷ os) - 1 ≡ suc (length (q ∷ os) - 1) = omega arith in
    last_is (option_rank p) (q ∷ os) o (subst (λ (k : ℕ). Some o ≡ slice_get (p ∷ q ∷ os) k) next h)

pub changed_push : (options : RecursorOptions) (os : List OptionLine) (o : OptionLine) → changed_by options (os ++ o ∷ []) ≡ changed (changed_by options os) o
changed_push options [] o = refl
changed_push options (p ∷ os) o = changed_push (changed options p) os o

-- the limit of zones with a further line
limit_push : (os : List OptionLine) (o : OptionLine) → (options_with (os ++ o ∷ [])).ns_recursion_limit ≡ (changed (options_with os) o).ns_recursion_limit
limit_push os o = ap (λ (options : RecursorOptions). options.ns_recursion_limit) (changed_push standard_options os o)

pub limit_next : (os : List OptionLine) (i : ℕ) (o : OptionLine) (before limit : ℕ) → i < length os → o ≡ get_or os i o → before ≡ (options_with (take i os)).ns_recursion_limit
    → ((options : RecursorOptions) → options.ns_recursion_limit ≡ before → limit ≡ (changed options o).ns_recursion_limit) → limit ≡ (options_with (take (i + 1) os)).ns_recursion_limit
limit_next os i o before limit below is so_far after =
    let more : take (i + 1) os ≡ take i os ++ o ∷ [] = take_more os i o below ∙ ap (λ (p : OptionLine). take i os ++ p ∷ []) (sym is) in
    after (options_with (take i os)) (sym so_far) ∙ sym (limit_push (take i os) o) ∙ sym (ap (λ (ls : List OptionLine). (options_with ls).ns_recursion_limit) more)
