-- The same but for TTLs, as what was told reads later (RFC 1035 section 3.2.1).
use Rattle.std.specs.Prelude.{◌≡◌, ℕ, IsTrue}
use Rattle.dns_core.specs.Log.{Log}
use Rattle.dns_core.specs.declared.message.Query.{Query}
use Rattle.dns_core.specs.declared.net_error.NoRecords.{NoRecords}
use Rattle.resolution.specs.Names.{same_query}
use Rattle.resolution.specs.Same.{Same, SameRecord, SameRecords}
use Rattle.resolution.specs.Negatives.{SameIfAny, SameReferrals, AskedAs}
use Rattle.resolution.specs.declared.verdict.Verdict.{Verdict}
use Rattle.resolution.specs.declared.verdict.Verdict.TheVariants.{Pos, Neg, Made}
use Rattle.resolution.specs.declared.verdict.Cause.TheVariants.{Filter}
use Rattle.walk_response.specs.Shown.{nothing_left_for}

-- a negative that was told
pub record SameNoRecords (a b : NoRecords) : Type 0 where
  pub soa : SameIfAny SameRecord a.soa b.soa
  pub ns : SameIfAny SameReferrals a.ns b.ns
  pub authorities : SameRecords a.authorities b.authorities
  pub rest : a ≡ record b { soa = a.soa; ns = a.ns; authorities = a.authorities }

-- It is that, for the question as it was first asked.
pub record IsNothingLeft (query : Query) (n : NoRecords) : Type 0 where
  pub first : Query
  pub same : IsTrue (same_query first query)
  pub is : n ≡ nothing_left_for first

-- what a response to a question counts for; what the filter of answers leaves nothing of is read as a negative
abbrev pub SameVerdict : Query → Verdict → Verdict → Type 0
SameVerdict query (Pos a) (Pos b) = Same a b
SameVerdict query (Neg a) (Neg b) = SameNoRecords a b
SameVerdict query (Neg a) (Made Filter) = IsNothingLeft query a
SameVerdict query (Made a) (Made b) = a ≡ b
SameVerdict query _ _ = ⊥

-- A denial that the recursor made shows the question as it was asked: what it is read as does, or it is shown for that question.
abbrev pub ShowsAsked : Log → ℕ → Query → Verdict → Verdict → Type 0
ShowsAsked log i query (Pos k) whole = Unit {0}
ShowsAsked log i query (Neg n) (Pos k) = Unit {0}
ShowsAsked log i query (Neg n) (Neg m) = Unit {0}
ShowsAsked log i query (Neg n) (Made cause) = AskedAs log i n.query
ShowsAsked log i query (Made cause) whole = AskedAs log i query
