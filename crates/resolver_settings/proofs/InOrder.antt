-- Addresses in the order of their words.
use Rattle.std.proofs.Common.{◌≡◌, ℕ, List, [], ◌∷◌, ◌++◌, Option, Some, None, sym, subst, refl, append_assoc}
use Rattle.std.specs.List.{cons_option}
use Rattle.std.proofs.lemmas.List.{append-nil}
use Rattle.std.specs.declared.net.ip_addr.IpAddr.{IpAddr}
use Rattle.resolver_settings.specs.TextServers.{Addresses, GivesAddress, server_words}
use Rattle.resolver_settings.specs.TextServers.Addresses.{done, spelled, passed}
use Rattle.resolver_settings.specs.Directives.{server_word}
use Rattle.resolver_settings.proofs.OneAddress.{one_address}

pub one_more : (word : Option (List ℕ)) (address : Option IpAddr) (words : List (List ℕ)) (addresses : List IpAddr) → GivesAddress word address → Addresses words addresses → Addresses (cons_option word words) (cons_option address addresses)
one_more None address words addresses h more = subst (λ (a : Option IpAddr). Addresses words (cons_option a addresses)) (sym h) more
one_more (Some word) None words addresses h more = passed h more
one_more (Some word) (Some address) words addresses h more = spelled h more

-- words give one list of addresses
pub one_list : (words : List (List ℕ)) (a b : List IpAddr) → Addresses words a → Addresses words b → a ≡ b
one_list [] a b done done = refl
one_list (word ∷ words) a b (spelled h p) (spelled k q) = let head = one_address word _ _ h k in let tail = one_list words _ _ p q in cc
one_list (word ∷ words) a b (spelled h p) (passed k q) = absurd (k _ h)
one_list (word ∷ words) a b (passed h p) (spelled k q) = absurd (h _ k)
one_list (word ∷ words) a b (passed h p) (passed k q) = one_list words _ _ p q

abbrev pub LeadsTo : List (List ℕ) → List (List (List ℕ)) → List IpAddr → Type 0
LeadsTo all lines so_far = (rest : List IpAddr) → Addresses (server_words lines) rest → Addresses all (so_far ++ rest)

pub line_without : (all : List (List ℕ)) (before lines : List (List (List ℕ))) (line : List (List ℕ)) (so_far : List IpAddr) → before ≡ line ∷ lines → GivesAddress (server_word line) None → LeadsTo all before so_far → LeadsTo all lines so_far
line_without all before lines line so_far e h leads rest more = leads rest (subst (λ ls. Addresses (server_words ls) rest) (sym e) (one_more (server_word line) None (server_words lines) rest h more))

pub line_with : (all : List (List ℕ)) (before lines : List (List (List ℕ))) (line : List (List ℕ)) (so_far : List IpAddr) (address : IpAddr) → before ≡ line ∷ lines → GivesAddress (server_word line) (Some address) → LeadsTo all before so_far → LeadsTo all lines (so_far ++ address ∷ [])
line_with all before lines line so_far address e h leads rest more =
    rw append_assoc (leads (address ∷ rest) (subst (λ ls. Addresses (server_words ls) (address ∷ rest)) (sym e) (one_more (server_word line) (Some address) (server_words lines) rest h more)))

pub all_lines : (all : List (List ℕ)) (before : List (List (List ℕ))) (so_far : List IpAddr) → before ≡ [] → LeadsTo all before so_far → Addresses all so_far
all_lines all before so_far e leads = subst (λ xs. Addresses all xs) (append-nil so_far) (leads [] (subst (λ ls. Addresses (server_words ls) []) (sym e) done))
