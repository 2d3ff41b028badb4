-- Each line that is no record line is read exactly where it is spelled so.
use Rattle.std.proofs.Common.{◌≡◌, ℕ, ◌<◌, ◌≤◌, true, false, List, [], ◌∷◌, ◌++◌, length, Option, Some, None, Result, Ok, Err, refl, sym, ap, subst, ◌∙◌, arith, lit<, inl, inr}
use Rattle.std.specs.Prelude.{IfSome, codes, decimal}
use Rattle.std.specs.Str.{bytes_eq}
use Rattle.std.specs.declared.net.ip_addr.IpAddr.{IpAddr}
use Rattle.std.proofs.lemmas.Slice.Eq.{bytes_eq-Decides}
use Rattle.dns_core.specs.NameText.{text_of as name_text}
use Rattle.dns_core.specs.declared.connection.Protocol.{Protocol}
use Rattle.dns_core.specs.declared.net_error.NetError.{NetError}
use Rattle.script_upstream.specs.declared.script.script.ScriptLine.{ScriptLine}
use Rattle.script_upstream.specs.declared.script.script.ScriptLine.TheVariants.{Connect, Refuse, Reply}
use Rattle.dns_core.specs.declared.request.Question.{Question}
use Rattle.text_lines.specs.declared.lines.lines.Form.{Form}
use Rattle.text_lines.specs.declared.lines.lines.Form.TheVariants as form
use Rattle.text_lines.specs.declared.lines.rules.Counts.{Counts}
use Rattle.text_lines.specs.declared.lines.rules.MessageHead.{MessageHead}
use Rattle.text_lines.specs.declared.lines.rules.OpenRule.{OpenRule}
use Rattle.text_lines.specs.Addresses.{ip_of}
use Rattle.text_lines.specs.OptionForm.{option_line_of}
use Rattle.text_lines.specs.Pieces.{pieces}
use Rattle.text_lines.specs.Fields.{Fields, field, in_table, whole, nothing}
use Rattle.text_lines.specs.Codes.{class_in}
use Rattle.text_lines.specs.Lines.{protocols, head_fields, patience_fields, told_fields, count_field, three_counts, counts_from, counts_fields, head_from, head_parts_fields, message_fields, delay_field, failure_field, outcome_fields, connected_fields, answered_fields, refuse_fields, connect_parts, connect_fields, connect_from, reply_parts, reply_fields, reply_from, question_fields, question_from, turn_fields, turn_from, head_of, root_of, option_of, patience_of, told_of, connect_of, refuse_of, reply_of, question_of, turn_of, end_line_of, forms_of, form_of}
use Rattle.dns_core.specs.CodeTexts.{type_text, response_code_text}
use Rattle.text_lines.specs.Texts.{ip_text, protocol_text, error_word, flags_text}
use Rattle.text_lines.specs.Spelling.{spelled, IsName, IsFullName, IsAddress, IsType, IsCode}
use Rattle.text_lines.specs.LineSpelling.{dnssec_text, head_words, root_words, option_words, patience_words, told_words, question_words, turn_words, end_words, reply_words, error_words, failed_words, connected_words, connect_words, refuse_words, script_lines, most_delay, IsOption, IsTransport, IsFailure, IsScriptLine, IsQuestion, IsTurn}
use Rattle.text_lines.proofs.AddressLaws.{ip_field}
use Rattle.text_lines.proofs.StepsThatFail.{bind_some, guard_some, some_is, chosen}
use Rattle.text_lines.proofs.CodeLaws.{type_field, response_code_field, type_plain, response_code_plain}
use Rattle.text_lines.proofs.PlainLaws.{AllBytes, AllPlain, pieces_take}
use Rattle.text_lines.proofs.NumberLaws.{is_word_byte}
use Rattle.text_lines.proofs.OptionLaws.{option_takes, option_again, option_plain}
use Rattle.text_lines.proofs.FieldLaws.{IsSeq, one, pair_law, skip_law, nothing_law, view_law, whole_takes, whole_again, IsWithin, number_field, relaxed_name_field, bytes_same}
use Rattle.text_lines.proofs.WordLaws.{full_law, wide_law, low, address_plain, named_plain, small, words_again}
use Rattle.text_lines.proofs.TableLaws.{protocol_field, failure_is_field, flags_field, dnssec_field, protocol_plain, failure_plain, flags_plain, dnssec_plain}

abbrev any : {A : Type 0} → A → Type 0
any x = Unit {0}

-- ---- the law of each kind

ip_law : IsSeq (field ip_of) (λ a. ip_text a ∷ []) IsAddress
ip_law = one _ _ _ ip_field

head_law : IsSeq head_fields (λ x. codes "1" ∷ []) any
head_law = skip_law _ _ _ _ nothing_law

patience_law : IsSeq patience_fields (λ n. decimal n ∷ []) (IsWithin 1 1000)
patience_law = one _ _ _ (number_field 1 1000 (lit< tt))

told_law : IsSeq told_fields (λ x. codes "script" ∷ []) any
told_law = skip_law _ _ _ _ nothing_law

count_law : IsSeq count_field (λ n. decimal n ∷ []) (IsWithin 0 65535)
count_law = one _ _ _ (number_field 0 65535 (lit< tt))

abbrev IsFew : Counts → Type 0
IsFew c = (c.answers ≤ 65535) × (c.authorities ≤ 65535) × (c.additionals ≤ 65535)

abbrev count_words : Counts → List (List ℕ)
count_words c = decimal c.answers ∷ decimal c.authorities ∷ decimal c.additionals ∷ []

counts_law : IsSeq counts_fields count_words IsFew
counts_law = view_law three_counts _ _ (pair_law _ _ _ _ _ _ count_law (pair_law _ _ _ _ _ _ count_law count_law)) counts_from (λ c. (c.answers, (c.authorities, c.additionals))) count_words IsFew
    (λ x. refl) (λ x fits. (fits.0.1, fits.1.0.1, fits.1.1.1)) (λ c. refl) (λ c fits. ((omega arith, fits.0), ((omega arith, fits.1), (omega arith, fits.2)))) (λ c. refl)

abbrev head_words_of : MessageHead → List (List ℕ)
head_words_of h = response_code_text h.response_code ∷ flags_text h.authoritative h.truncation ∷ count_words h.owed

abbrev IsHead : MessageHead → Type 0
IsHead h = IsCode h.response_code × IsFew h.owed

message_law : IsSeq message_fields head_words_of IsHead
message_law = view_law head_parts_fields _ _ (pair_law _ _ _ _ _ _ (one _ _ _ response_code_field) (pair_law _ _ _ _ _ _ (one _ _ _ flags_field) counts_law))
    head_from (λ h. (h.response_code, ((h.authoritative, h.truncation), h.owed))) head_words_of IsHead (λ x. refl) (λ x fits. (fits.0, fits.1.1)) (λ h. refl) (λ h fits. (fits.0, (tt, fits.1))) (λ h. refl)

delay_law : IsSeq delay_field (λ n. decimal n ∷ []) (IsWithin 0 most_delay)
delay_law = one _ _ _ (number_field 0 most_delay (lit< tt))

failure_law : IsSeq failure_field (λ e. error_word e ∷ []) IsFailure
failure_law = one _ _ _ failure_is_field

transport_law : IsSeq (field (in_table protocols)) (λ p. protocol_text p ∷ []) IsTransport
transport_law = one _ _ _ protocol_field

-- ---- what a connection or a question comes to

abbrev outcome_words : {X : Type 0} → List ℕ → (X → List (List ℕ)) → Result X NetError → List (List ℕ)
outcome_words key text (Ok x) = key ∷ text x
outcome_words key text (Err e) = error_words e

abbrev OutcomeFits : {X : Type 0} → (X → Type 0) → Result X NetError → Type 0
OutcomeFits Fits (Ok x) = Fits x
OutcomeFits Fits (Err e) = IsFailure e

abbrev told_so : {X : Type 0} → X → List (List ℕ) → Result X NetError × List (List ℕ)
told_so x rest = (Ok x, rest)

abbrev told_error : (X : Type 0) → NetError → List (List ℕ) → Result X NetError × List (List ℕ)
told_error X e rest = (Err e, rest)

outcome_takes : {X : Type 0} (key : List ℕ) (p : Fields X) (text : X → List (List ℕ)) (Fits : X → Type 0) → IsSeq p text Fits
    → (ws : List (List ℕ)) (r : Result X NetError) (rest : List (List ℕ)) → outcome_fields key p ws ≡ Some (r, rest) → (ws ≡ outcome_words key text r ++ rest) × OutcomeFits Fits r
outcome_takes key p text Fits law [] r rest e = absurd cc
outcome_takes {X = X} key p text Fits law (w ∷ ws) r rest e =
    elim (chosen (bytes_eq w key) _ _ _ e) [
      | inl h ↦
          let b = bind_some (p ws) (λ x. Some (told_so x.0 x.1)) (r, rest) h.1 in
          let t = law.takes ws b.0.0 b.0.1 b.1 in
          subst (λ (z : Result X NetError × List (List ℕ)). (w ∷ ws ≡ outcome_words key text z.0 ++ z.1) × OutcomeFits Fits z.0) (some_is (told_so b.0.0 b.0.1) (r, rest) b.2)
          (ap (λ (v : List ℕ). v ∷ ws) (bytes_same w key h.0) ∙ ap (λ (l : List (List ℕ)). key ∷ l) t.0, t.1)
      | inr h ↦
          let g = guard_some (bytes_eq w (codes "error")) _ _ h.1 in
          let b = bind_some (failure_field ws) (λ x. Some (told_error X x.0 x.1)) (r, rest) g.1 in
          let t = failure_law.takes ws b.0.0 b.0.1 b.1 in
          subst (λ (z : Result X NetError × List (List ℕ)). (w ∷ ws ≡ outcome_words key text z.0 ++ z.1) × OutcomeFits Fits z.0) (some_is (told_error X b.0.0 b.0.1) (r, rest) b.2)
          (ap (λ (v : List ℕ). v ∷ ws) (bytes_same w (codes "error") g.0) ∙ ap (λ (l : List (List ℕ)). codes "error" ∷ l) t.0, t.1)
    ]

outcome_again : {X : Type 0} (key : List ℕ) (p : Fields X) (text : X → List (List ℕ)) (Fits : X → Type 0) → IsSeq p text Fits → bytes_eq (codes "error") key ≡ false
    → (r : Result X NetError) (rest : List (List ℕ)) → OutcomeFits Fits r → outcome_fields key p (outcome_words key text r ++ rest) ≡ Some (r, rest)
outcome_again key p text Fits law other (Ok x) rest fits = rw ((bytes_eq-Decides key key).1 refl, law.again x rest fits) refl
outcome_again key p text Fits law other (Err e) rest fits = rw (other, failure_law.again e rest fits) refl

outcome_law : {X : Type 0} (key : List ℕ) (p : Fields X) (text : X → List (List ℕ)) (Fits : X → Type 0) → IsSeq p text Fits → bytes_eq (codes "error") key ≡ false
    → IsSeq (outcome_fields key p) (outcome_words key text) (OutcomeFits Fits)
outcome_law key p text Fits law other = record { takes = outcome_takes key p text Fits law; again = outcome_again key p text Fits law other }

abbrev there_words : Result (Unit {0}) NetError → List (List ℕ)
there_words r = outcome_words (codes "ok") (λ u. []) r

abbrev IsThere : Result (Unit {0}) NetError → Type 0
IsThere r = OutcomeFits (λ u. Unit {0}) r

connected_law : IsSeq connected_fields there_words IsThere
connected_law = outcome_law (codes "ok") nothing _ _ nothing_law refl

abbrev answer_words : Result MessageHead NetError → List (List ℕ)
answer_words r = outcome_words (codes "message") head_words_of r

abbrev IsAnswer : Result MessageHead NetError → Type 0
IsAnswer r = OutcomeFits IsHead r

answered_law : IsSeq answered_fields answer_words IsAnswer
answered_law = outcome_law (codes "message") message_fields _ _ message_law refl

-- ---- lines of a script

refuse_law : IsSeq refuse_fields (λ x. ip_text x.0 ∷ protocol_text x.1 ∷ []) (λ x. IsAddress x.0 × IsTransport x.1)
refuse_law = pair_law _ _ _ _ _ _ ip_law transport_law

abbrev ConnectFits : connect_parts → Type 0
ConnectFits x = IsAddress x.0 × (IsTransport x.1.0 × (IsWithin 0 most_delay x.1.1.0 × IsThere x.1.1.1))

connect_law : IsSeq connect_fields (λ x. ip_text x.0 ∷ protocol_text x.1.0 ∷ decimal x.1.1.0 ∷ there_words x.1.1.1) ConnectFits
connect_law = pair_law _ _ _ _ _ _ ip_law (pair_law _ _ _ _ _ _ transport_law (pair_law _ _ _ _ _ _ delay_law connected_law))

abbrev ReplyFits : reply_parts → Type 0
ReplyFits x = IsAddress x.0 × (IsTransport x.1.0 × (IsFullName x.1.1.0 × (IsType x.1.1.1.0 × (IsWithin 0 most_delay x.1.1.1.1.0 × IsAnswer x.1.1.1.1.1))))

reply_law : IsSeq reply_fields (λ x. ip_text x.0 ∷ protocol_text x.1.0 ∷ name_text x.1.1.0 ∷ type_text x.1.1.1.0 ∷ decimal x.1.1.1.1.0 ∷ answer_words x.1.1.1.1.1) ReplyFits
reply_law = pair_law _ _ _ _ _ _ ip_law (pair_law _ _ _ _ _ _ transport_law (pair_law _ _ _ _ _ _ full_law (pair_law _ _ _ _ _ _ (one _ _ _ type_field) (pair_law _ _ _ _ _ _ delay_law answered_law))))

question_law : IsSeq question_fields (λ x. name_text x.0 ∷ type_text x.1.0 ∷ dnssec_text x.1.1 ∷ []) (λ x. IsName x.0 × (IsType x.1.0 × Unit {0}))
question_law = pair_law _ _ _ _ _ _ (one _ _ _ relaxed_name_field) (pair_law _ _ _ _ _ _ (one _ _ _ type_field) (one _ _ _ dnssec_field))

turn_law : IsSeq turn_fields (λ x. decimal x.0 ∷ decimal x.1 ∷ []) (λ x. IsWithin 0 4294967295 x.0 × IsWithin 0 4611686018427387903 x.1)
turn_law = pair_law _ _ _ _ _ _ wide_law (one _ _ _ (number_field 0 4611686018427387903 (lit< tt)))

-- ---- all kinds

-- the words of a line of a script that no records follow
abbrev pub rule_words : ScriptLine → List (List ℕ)
rule_words (Reply ip protocol name type delay (Ok m)) = []
rule_words (Reply ip protocol name type delay (Err e)) = failed_words ip protocol name type delay e
rule_words (Connect ip protocol delay error) = connect_words ip protocol delay error
rule_words (Refuse ip protocol) = refuse_words ip protocol

-- a line of a script that no records follow
abbrev pub IsLone : ScriptLine → Type 0
IsLone (Reply ip protocol name type delay (Ok m)) = ⊥
IsLone (Reply ip protocol name type delay (Err e)) = IsScriptLine (Reply ip protocol name type delay (Err e))
IsLone (Connect ip protocol delay error) = IsScriptLine (Connect ip protocol delay error)
IsLone (Refuse ip protocol) = IsScriptLine (Refuse ip protocol)

pub lone_lines : (line : ScriptLine) → IsLone line → (script_lines line ≡ spelled (rule_words line) ∷ []) × IsScriptLine line
lone_lines (Reply ip protocol name type delay (Ok m)) fits = absurd fits
lone_lines (Reply ip protocol name type delay (Err e)) fits = (refl, fits)
lone_lines (Connect ip protocol delay error) fits = (refl, fits)
lone_lines (Refuse ip protocol) fits = (refl, fits)

-- the words of a line that is no record line
abbrev pub form_words : Form → List (List ℕ)
form_words form.Head = head_words
form_words (form.Root ip) = root_words ip
form_words (form.Option o) = option_words o
form_words (form.Patience n) = patience_words n
form_words form.ToldScript = told_words
form_words (form.Reply o) = reply_words o.ip o.protocol o.message.query.name o.message.query.query_type o.delay o.message o.owed.answers o.owed.authorities o.owed.additionals
form_words (form.Rule line) = rule_words line
form_words (form.Question q) = question_words q
form_words (form.Turn t) = turn_words t
form_words form.End = end_words

-- a rule none of whose records is there
pub record IsBare (o : OpenRule) : Type 0 where
  pub address : IsAddress o.ip
  pub transport : IsTransport o.protocol
  pub named : IsFullName o.message.query.name
  pub typed : IsType o.message.query.query_type
  pub soon : o.delay ≤ most_delay
  pub class : o.message.query.query_class ≡ class_in
  pub fine : IsCode o.message.response_code
  pub few : IsFew o.owed
  pub no_answers : o.message.answers ≡ []
  pub no_authorities : o.message.authorities ≡ []
  pub no_additionals : o.message.additionals ≡ []

abbrev pub IsForm : Form → Type 0
IsForm form.Head = Unit {0}
IsForm (form.Root ip) = IsAddress ip
IsForm (form.Option o) = IsOption o
IsForm (form.Patience n) = (1 ≤ n) × (n ≤ 1000)
IsForm form.ToldScript = Unit {0}
IsForm (form.Reply o) = IsBare o
IsForm (form.Rule line) = IsLone line
IsForm (form.Question q) = IsQuestion q
IsForm (form.Turn t) = IsTurn t
IsForm form.End = Unit {0}

kind_takes : {X : Type 0} (key : List ℕ) (p : Fields X) (text : X → List (List ℕ)) (Fits : X → Type 0) → IsSeq p text Fits → (f : X → Form)
    → ((x : X) → form_words (f x) ≡ key ∷ text x) → ((x : X) → Fits x → IsForm (f x)) → (w : List ℕ) (ws : List (List ℕ)) (z : Form) → bytes_eq w key ≡ true → whole p f ws ≡ Some z → (w ∷ ws ≡ form_words z) × IsForm z
kind_takes key p text Fits law f words suits w ws z same e =
    let t = whole_takes p text Fits law f ws z e in
    let spelt : w ∷ ws ≡ form_words (f t.0) = ap (λ (v : List ℕ). v ∷ ws) (bytes_same w key same) ∙ ap (λ (r : List (List ℕ)). key ∷ r) t.1 ∙ sym (words t.0) in
    subst (λ (y : Form). (w ∷ ws ≡ form_words y) × IsForm y) t.3 (spelt, suits t.0 t.2)

written_takes : (w : List ℕ) (ws : List (List ℕ)) (z : Form) → bytes_eq w (codes "option") ≡ true → option_of ws ≡ Some z → (w ∷ ws ≡ form_words z) × IsForm z
unfolding option_of
written_takes w ws z same e =
    let b = bind_some (option_line_of ws) (λ o. Some (form.Option o)) z e in
    let t = option_takes ws b.0 b.1 in
    let spelt : w ∷ ws ≡ option_words b.0 = ap (λ (v : List ℕ). v ∷ ws) (bytes_same w (codes "option") same) ∙ ap (λ (r : List (List ℕ)). codes "option" ∷ r) t.0 in
    subst (λ (y : Form). (w ∷ ws ≡ form_words y) × IsForm y) (some_is (form.Option b.0) z b.2) (spelt, t.1)

reply_spelt : (x : reply_parts)
    → form_words (reply_from x) ≡ codes "reply" ∷ ip_text x.0 ∷ protocol_text x.1.0 ∷ name_text x.1.1.0 ∷ type_text x.1.1.1.0 ∷ decimal x.1.1.1.1.0 ∷ answer_words x.1.1.1.1.1
reply_spelt (ip, (protocol, (n, (t, (delay, Ok h))))) = refl
reply_spelt (ip, (protocol, (n, (t, (delay, Err e))))) = refl

reply_suits : (x : reply_parts) → ReplyFits x → IsForm (reply_from x)
reply_suits (ip, (protocol, (n, (t, (delay, Ok h))))) fits = record {
  address = fits.0;
  transport = fits.1.0;
  named = fits.1.1.0;
  typed = fits.1.1.1.0;
  soon = fits.1.1.1.1.0.1;
  class = refl;
  fine = fits.1.1.1.1.1.0;
  few = fits.1.1.1.1.1.1;
  no_answers = refl;
  no_authorities = refl;
  no_additionals = refl;
}
reply_suits (ip, (protocol, (n, (t, (delay, Err e))))) fits =
    record { address = fits.0; transport = fits.1.0; named = fits.1.1.0; typed = fits.1.1.1.0; soon = fits.1.1.1.1.0.1; failure = fits.1.1.1.1.1 }

connect_spelt : (x : connect_parts) → form_words (connect_from x) ≡ codes "connect" ∷ ip_text x.0 ∷ protocol_text x.1.0 ∷ decimal x.1.1.0 ∷ there_words x.1.1.1
connect_spelt (ip, (protocol, (delay, Ok u))) = refl
connect_spelt (ip, (protocol, (delay, Err e))) = refl

connect_suits : (x : connect_parts) → ConnectFits x → IsForm (connect_from x)
connect_suits (ip, (protocol, (delay, Ok u))) fits = record { address = fits.0; transport = fits.1.0; soon = fits.1.1.0.1; failure = tt }
connect_suits (ip, (protocol, (delay, Err e))) fits = record { address = fits.0; transport = fits.1.0; soon = fits.1.1.0.1; failure = fits.1.1.1 }

forms_take : (ws : List (List ℕ)) (z : Form) → forms_of ws ≡ Some z → (ws ≡ form_words z) × IsForm z
unfolding forms_of head_of root_of option_of patience_of told_of connect_of refuse_of reply_of question_of turn_of end_line_of
forms_take [] z e = absurd cc
forms_take (w ∷ ws) z e = elim (chosen (bytes_eq w (codes "reply")) _ _ _ e) [
  | inl h ↦ kind_takes (codes "reply") reply_fields _ _ reply_law reply_from reply_spelt reply_suits w ws z h.0 h.1
  | inr h ↦ elim (chosen (bytes_eq w (codes "recursor")) _ _ _ h.1) [
    | inl h ↦ kind_takes (codes "recursor") head_fields _ _ head_law (λ x. form.Head) (λ x. refl) (λ x fits. fits) w ws z h.0 h.1
    | inr h ↦ elim (chosen (bytes_eq w (codes "root")) _ _ _ h.1) [
      | inl h ↦ kind_takes (codes "root") (field ip_of) _ _ ip_law form.Root (λ x. refl) (λ x fits. fits) w ws z h.0 h.1
      | inr h ↦ elim (chosen (bytes_eq w (codes "option")) _ _ _ h.1) [
        | inl h ↦ written_takes w ws z h.0 h.1
        | inr h ↦ elim (chosen (bytes_eq w (codes "patience")) _ _ _ h.1) [
          | inl h ↦ kind_takes (codes "patience") patience_fields _ _ patience_law form.Patience (λ x. refl) (λ x fits. fits) w ws z h.0 h.1
          | inr h ↦ elim (chosen (bytes_eq w (codes "told")) _ _ _ h.1) [
            | inl h ↦ kind_takes (codes "told") told_fields _ _ told_law (λ x. form.ToldScript) (λ x. refl) (λ x fits. fits) w ws z h.0 h.1
            | inr h ↦ elim (chosen (bytes_eq w (codes "question")) _ _ _ h.1) [
              | inl h ↦ kind_takes (codes "question") question_fields _ _ question_law (λ x. form.Question (question_from x)) (λ x. refl)
                  (λ x fits. record { named = fits.0; typed = fits.1.0; class = refl }) w ws z h.0 h.1
              | inr h ↦ elim (chosen (bytes_eq w (codes "turn")) _ _ _ h.1) [
                | inl h ↦ kind_takes (codes "turn") turn_fields _ _ turn_law (λ x. form.Turn (turn_from x)) (λ x. refl) (λ x fits. (fits.0.1, omega (arith, fits.1.1))) w ws z h.0 h.1
                | inr h ↦ elim (chosen (bytes_eq w (codes "connect")) _ _ _ h.1) [
                  | inl h ↦ kind_takes (codes "connect") connect_fields _ _ connect_law connect_from connect_spelt connect_suits w ws z h.0 h.1
                  | inr h ↦ elim (chosen (bytes_eq w (codes "refuse")) _ _ _ h.1) [
                    | inl h ↦ kind_takes (codes "refuse") refuse_fields _ _ refuse_law (λ x. form.Rule (Refuse x.0 x.1)) (λ x. refl) (λ x fits. fits) w ws z h.0 h.1
                    | inr h ↦ let g = guard_some (bytes_eq w (codes "end")) (end_line_of ws) z h.1 in
                        kind_takes (codes "end") nothing _ _ nothing_law (λ x. form.End) (λ x. refl) (λ x fits. fits) w ws z g.0 g.1
                  ]
                ]
              ]
            ]
          ]
        ]
      ]
    ]
  ]
]

pub form_takes : (line : List ℕ) (z : Form) → form_of line ≡ Some z → (line ≡ spelled (form_words z)) × IsForm z
form_takes line z e = let t = forms_take (pieces 32 line) z e in (pieces_take 32 line (form_words z) t.0, t.1)

-- ---- again

abbrev bare_parts : OpenRule → reply_parts
bare_parts o =
    let head : MessageHead = record { response_code = o.message.response_code; authoritative = o.message.authoritative; truncation = o.message.truncation; owed = o.owed } in
    (o.ip, (o.protocol, (o.message.query.name, (o.message.query.query_type, (o.delay, Ok head)))))

bare_is : (o : OpenRule) → IsBare o → reply_from (bare_parts o) ≡ form.Reply o
bare_is o b = λ i. form.Reply (record {
  ip = o.ip;
  protocol = o.protocol;
  delay = o.delay;
  message = record {
    query = record { name = o.message.query.name; query_type = o.message.query.query_type; query_class = sym b.class i };
    response_code = o.message.response_code;
    authoritative = o.message.authoritative;
    truncation = o.message.truncation;
    answers = sym b.no_answers i;
    authorities = sym b.no_authorities i;
    additionals = sym b.no_additionals i;
  };
  owed = o.owed;
})

reply_again : (o : OpenRule) → IsBare o → forms_of (form_words (form.Reply o)) ≡ Some (form.Reply o)
unfolding forms_of reply_of
reply_again o b =
    subst (λ (z : Form). forms_of (form_words z) ≡ Some z) (bare_is o b)
    (whole_again reply_fields _ ReplyFits reply_law reply_from (bare_parts o) (b.address, (b.transport, (b.named, (b.typed, (low most_delay o.delay b.soon, (b.fine, b.few)))))))

-- what a connection comes to, as it is read
abbrev there : Option NetError → Result (Unit {0}) NetError
there None = Ok tt
there (Some e) = Err e

abbrev lone_parts : IpAddr → Protocol → ℕ → Option NetError → connect_parts
lone_parts ip protocol delay error = (ip, (protocol, (delay, there error)))

rule_again : (line : ScriptLine) → IsLone line → forms_of (rule_words line) ≡ Some (form.Rule line)
unfolding forms_of connect_of refuse_of reply_of
rule_again (Reply ip protocol n t delay (Ok m)) fits = absurd fits
rule_again (Reply ip protocol n t delay (Err e)) fits =
    whole_again _ _ _ reply_law reply_from (ip, (protocol, (n, (t, (delay, Err e))))) (fits.address, (fits.transport, (fits.named, (fits.typed, (low most_delay delay fits.soon, fits.failure)))))
rule_again (Connect ip protocol delay None) fits =
    whole_again _ _ _ connect_law connect_from (lone_parts ip protocol delay None) (fits.address, (fits.transport, (low most_delay delay fits.soon, tt)))
rule_again (Connect ip protocol delay (Some e)) fits =
    whole_again _ _ _ connect_law connect_from (lone_parts ip protocol delay (Some e)) (fits.address, (fits.transport, (low most_delay delay fits.soon, fits.failure)))
rule_again (Refuse ip protocol) fits = whole_again _ _ _ refuse_law (λ x. form.Rule (Refuse x.0 x.1)) (ip, protocol) fits

question_is : (q : Question) → q.query.query_class ≡ class_in → question_from (q.query.name, (q.query.query_type, q.dnssec_ok)) ≡ q
question_is q is = λ i. record { query = record { name = q.query.name; query_type = q.query.query_type; query_class = sym is i }; dnssec_ok = q.dnssec_ok }

forms_again : (z : Form) → IsForm z → forms_of (form_words z) ≡ Some z
unfolding forms_of head_of root_of option_of patience_of told_of reply_of question_of turn_of end_line_of
forms_again form.Head fits = refl
forms_again (form.Root ip) fits = whole_again _ _ _ ip_law form.Root ip fits
forms_again (form.Option o) fits = rw (option_again o fits) refl
forms_again (form.Patience n) fits = whole_again _ _ _ patience_law form.Patience n fits
forms_again form.ToldScript fits = refl
forms_again (form.Reply o) fits = reply_again o fits
forms_again (form.Rule line) fits = rule_again line fits
forms_again (form.Question q) fits =
    whole_again _ _ _ question_law (λ x. form.Question (question_from x)) (q.query.name, (q.query.query_type, q.dnssec_ok)) (fits.named, (fits.typed, tt))
    ∙ ap (λ (p : Question). Some (form.Question p)) (question_is q fits.class)
forms_again (form.Turn t) fits =
    whole_again _ _ _ turn_law (λ x. form.Turn (turn_from x)) (t.question, t.moment) (low 4294967295 t.question fits.0, low 4611686018427387903 t.moment (omega (arith, fits.1)))
forms_again form.End fits = refl

-- ---- plain bytes

error_plain : (e : NetError) → IsFailure e → AllPlain is_word_byte (error_words e)
error_plain e fits = (refl, (failure_plain e fits, tt))

delay_plain : (delay : ℕ) → delay ≤ most_delay → AllBytes is_word_byte (decimal delay)
delay_plain delay le = small most_delay delay le (lit< tt)

connected_plain : (error : Option NetError) → IfSome error IsFailure → AllPlain is_word_byte (connected_words error)
connected_plain None fits = (refl, tt)
connected_plain (Some e) fits = error_plain e fits

rule_plain : (line : ScriptLine) → IsLone line → AllPlain is_word_byte (rule_words line)
rule_plain (Reply ip protocol n t delay (Ok m)) fits = absurd fits
rule_plain (Reply ip protocol n t delay (Err e)) fits =
    (refl, (address_plain ip fits.address, (protocol_plain protocol fits.transport, (named_plain n fits.named.0, (type_plain t fits.typed, (delay_plain delay fits.soon, error_plain e fits.failure))))))
rule_plain (Connect ip protocol delay error) fits =
    (refl, (address_plain ip fits.address, (protocol_plain protocol fits.transport, (delay_plain delay fits.soon, connected_plain error fits.failure))))
rule_plain (Refuse ip protocol) fits = (refl, (address_plain ip fits.0, (protocol_plain protocol fits.1, tt)))

pub form_plain : (z : Form) → IsForm z → AllPlain is_word_byte (form_words z)
form_plain form.Head fits = (refl, (refl, tt))
form_plain (form.Root ip) fits = (refl, (address_plain ip fits, tt))
form_plain (form.Option o) fits = (refl, option_plain o fits)
form_plain (form.Patience n) fits = (refl, (small 1000 n fits.1 (lit< tt), tt))
form_plain form.ToldScript fits = (refl, (refl, tt))
form_plain (form.Reply o) fits = (
  refl,
  (
    address_plain o.ip fits.address,
    (
      protocol_plain o.protocol fits.transport,
      (
        named_plain o.message.query.name fits.named.0,
        (
          type_plain o.message.query.query_type fits.typed,
          (
            delay_plain o.delay fits.soon,
            (
              refl,
              (
                response_code_plain o.message.response_code fits.fine,
                (
                  flags_plain o.message.authoritative o.message.truncation,
                  (small 65535 o.owed.answers fits.few.0 (lit< tt), (small 65535 o.owed.authorities fits.few.1 (lit< tt), (small 65535 o.owed.additionals fits.few.2 (lit< tt), tt))),
                ),
              ),
            ),
          ),
        ),
      ),
    ),
  ),
)
form_plain (form.Rule line) fits = rule_plain line fits
form_plain (form.Question q) fits = (refl, (named_plain q.query.name fits.named, (type_plain q.query.query_type fits.typed, (dnssec_plain q.dnssec_ok, tt))))
form_plain (form.Turn t) fits = (refl, (small 4294967295 t.question fits.0 (lit< tt), (small 4611686018427387903 t.moment (omega (arith, fits.1)) (lit< tt), tt)))
form_plain form.End fits = (refl, tt)

rule_some : (line : ScriptLine) → IsLone line → 0 < length (rule_words line)
rule_some (Reply ip protocol n t delay (Ok m)) fits = absurd fits
rule_some (Reply ip protocol n t delay (Err e)) fits = lit< tt
rule_some (Connect ip protocol delay error) fits = omega arith
rule_some (Refuse ip protocol) fits = lit< tt

form_some : (z : Form) → IsForm z → 0 < length (form_words z)
form_some form.Head fits = lit< tt
form_some (form.Root ip) fits = lit< tt
form_some (form.Option o) fits = omega arith
form_some (form.Patience n) fits = lit< tt
form_some form.ToldScript fits = lit< tt
form_some (form.Reply o) fits = lit< tt
form_some (form.Rule line) fits = rule_some line fits
form_some (form.Question q) fits = lit< tt
form_some (form.Turn t) fits = lit< tt
form_some form.End fits = lit< tt

pub form_again : (z : Form) → IsForm z → form_of (spelled (form_words z)) ≡ Some z
form_again z fits = ap forms_of (words_again (form_words z) (form_some z fits) (form_plain z fits)) ∙ forms_again z fits
