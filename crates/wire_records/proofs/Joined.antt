-- Parts that are appended one after the other.
use Rattle.std.proofs.Common.{◌≡◌, ℕ, List, ◌++◌, ap, ◌∙◌, append_assoc}

pub joined_three : (old a b c d first second third last : List ℕ) → first ≡ old ++ a → second ≡ first ++ b → third ≡ second ++ c → last ≡ third ++ d → last ≡ old ++ (a ++ (b ++ (c ++ d)))
joined_three old a b c d first second third last e1 e2 e3 e4 =
    let two_parts = e2 ∙ ap (λ (x : List ℕ). x ++ b) e1 ∙ append_assoc old a b in
    let three_parts = e3 ∙ ap (λ (x : List ℕ). x ++ c) two_parts ∙ append_assoc old (a ++ b) c ∙ ap (λ (x : List ℕ). old ++ x) (append_assoc a b c) in
    e4 ∙ ap (λ (x : List ℕ). x ++ d) three_parts ∙ append_assoc old (a ++ (b ++ c)) d ∙ ap (λ (x : List ℕ). old ++ x) (append_assoc a (b ++ c) d ∙ ap (λ (x : List ℕ). a ++ x) (append_assoc b c d))
