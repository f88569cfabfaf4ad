-- Line reading and header reading answer by the rules of 01, when and only when each holds.
use Prim.Native.Nat.{ℕ, ◌≤◌, ◌<◌}
use native.Mathlib.Omega.{arith}
use mathlib.Core.Path.{◌≡◌, refl, sym, ◌∙◌, ap, subst}
use mathlib.Core.Bool.{Bool, true, false}
use mathlib.Core.List.{List}
use mathlib.Core.Logic.{◌↔◌, ◌⊎◌, inl, inr, ⊎_elim}
use lib.ListN.{length}
use Rattle.exact.specs.Choice.{pick}
use Rattle.line_forms.specs.Contents.{bytes_of, Writable, in_range}
use Rattle.line_forms.specs.Readings.{line_of, line_for}
use Rattle.line_forms.specs.Claims.{AfterHeader, line_with, line_refusal, line_content, NoBytes, LineReading}
use Rattle.line_forms.specs.declared.Header.{Header}
use Rattle.line_forms.specs.declared.Content.{Content}
use Rattle.line_forms.specs.declared.Content.TheVariants.{Header as header, Loan as loan, Policy as policy, Derivative as derivative}
use Rattle.line_forms.specs.declared.Content.TheVariants.{Asset as asset, Amount as amount, Index as index, Mark as mark, NoForm}
use Rattle.line_forms.specs.declared.Line.{Line}
use Rattle.line_forms.specs.declared.Line.TheVariants.{Loan as LoanLine, Policy as PolicyLine, Derivative as DerivativeLine, Asset as AssetLine}
use Rattle.line_forms.specs.declared.Line.TheVariants.{Amount as AmountLine, Index as IndexLine, Mark as MarkRead, Refusal}
use Rattle.line_forms.specs.declared.refusal.Refusal.{Refusal as Reason}
use Rattle.line_forms.specs.declared.refusal.Refusal.TheVariants.{LongLine, NoForm as Formless, OutOfRange, Misplaced}
use Rattle.line_forms.specs.Refusals.{number_of}
use Rattle.line_forms.proofs.AnswerLaws.{answer-long, answer-none, answer-held, answer-cases}

-- The rules of line reading, one for each answer.
data Answer (s : List ℕ) : Line → Type 0 where
  long : 240 < length s → Answer s (Refusal LongLine)
  formless : length s ≤ 240 → NoBytes s → Answer s (Refusal Formless)
  head : (h : Header) → Writable (header h) → s ≡ bytes_of (header h) → Answer s (Refusal Misplaced)
  out : (c : Content) → AfterHeader c → Writable c → in_range c ≡ false → s ≡ bytes_of c → Answer s (Refusal OutOfRange)
  held : (c : Content) → AfterHeader c → Writable c → in_range c ≡ true → s ≡ bytes_of c → Answer s (line_with c)

-- the answer for data after the header
judged : (s : List ℕ) (c : Content) → AfterHeader c → Writable c → s ≡ bytes_of c → (b : Bool) → in_range c ≡ b → Answer s (pick b (line_with c) (Refusal OutOfRange))
judged s c a w e true r = held c a w r e
judged s c a w e false r = out c a w r e

answer-for : (s : List ℕ) (c : Content) → Writable c → s ≡ bytes_of c → Answer s (line_for c)
unfolding line_for in_range
answer-for s (header h) w e = head h w e
answer-for s (loan x) w e = judged s (loan x) tt w e (in_range (loan x)) refl
answer-for s (policy x) w e = judged s (policy x) tt w e (in_range (policy x)) refl
answer-for s (derivative x) w e = judged s (derivative x) tt w e (in_range (derivative x)) refl
answer-for s (asset x) w e = judged s (asset x) tt w e (in_range (asset x)) refl
answer-for s (amount x) w e = judged s (amount x) tt w e (in_range (amount x)) refl
answer-for s (index x) w e = judged s (index x) tt w e (in_range (index x)) refl
answer-for s (mark x) w e = judged s (mark x) tt w e true refl
answer-for s NoForm w e = absurd w

-- the answer obeys a rule
answered : (s : List ℕ) → Answer s (line_of s)
unfolding line_of line_for
answered s = answer-cases (Refusal LongLine) line_for s (λ r. Answer s r) (λ l. long l) (λ l n. formless l n) (λ c w e. answer-for s c w e)

-- a rule gives its answer
line-range : (c : Content) → AfterHeader c → line_for c ≡ pick (in_range c) (line_with c) (Refusal OutOfRange)
unfolding line_for in_range
line-range (header h) a = absurd a
line-range (loan x) a = refl
line-range (policy x) a = refl
line-range (derivative x) a = refl
line-range (asset x) a = refl
line-range (amount x) a = refl
line-range (index x) a = refl
line-range (mark x) a = refl
line-range NoForm a = absurd a

read_as : (s : List ℕ) (c : Content) → Writable c → s ≡ bytes_of c → line_of s ≡ line_for c
unfolding line_of
read_as s c w e = answer-held (Refusal LongLine) line_for s c w e

answers : (s : List ℕ) (r : Line) → Answer s r → line_of s ≡ r
unfolding line_of line_for
answers s r (long l) = answer-long (Refusal LongLine) line_for s l
answers s r (formless l n) = answer-none (Refusal LongLine) line_for s l n
answers s r (head h w e) = read_as s (header h) w e
answers s r (out c a w o e) = read_as s c w e ∙ line-range c a ∙ rw o
answers s r (held c a w o e) = read_as s c w e ∙ line-range c a ∙ rw o

accepted-number : (c : Content) → AfterHeader c → line_refusal (line_with c) ≡ 0
accepted-number (header h) a = absurd a
accepted-number (loan x) a = refl
accepted-number (policy x) a = refl
accepted-number (derivative x) a = refl
accepted-number (asset x) a = refl
accepted-number (amount x) a = refl
accepted-number (index x) a = refl
accepted-number (mark x) a = refl
accepted-number NoForm a = absurd a

accepted-data : (c : Content) → AfterHeader c → line_content (line_with c) ≡ c
accepted-data (header h) a = absurd a
accepted-data (loan x) a = refl
accepted-data (policy x) a = refl
accepted-data (derivative x) a = refl
accepted-data (asset x) a = refl
accepted-data (amount x) a = refl
accepted-data (index x) a = refl
accepted-data (mark x) a = refl
accepted-data NoForm a = absurd a

-- an answer's number tells the rule
rule1 : (s : List ℕ) (r : Line) → Answer s r → line_refusal r ≡ 1 → 240 < length s
rule1 s r (long l) q = l
rule1 s r (formless l n) q = absurd (omega arith)
rule1 s r (head h w e) q = absurd (omega arith)
rule1 s r (out c a w o e) q = absurd (omega arith)
rule1 s r (held c a w o e) q = absurd (omega (arith, accepted-number c a))

rule2 : (s : List ℕ) (r : Line) → Answer s r → line_refusal r ≡ 2 → (length s ≤ 240) × NoBytes s
rule2 s r (long l) q = absurd (omega arith)
rule2 s r (formless l n) q = (l, n)
rule2 s r (head h w e) q = absurd (omega arith)
rule2 s r (out c a w o e) q = absurd (omega arith)
rule2 s r (held c a w o e) q = absurd (omega (arith, accepted-number c a))

rule7 : (s : List ℕ) (r : Line) → Answer s r → line_refusal r ≡ 7 → (h : Header) × Writable (header h) × (s ≡ bytes_of (header h))
rule7 s r (long l) q = absurd (omega arith)
rule7 s r (formless l n) q = absurd (omega arith)
rule7 s r (head h w e) q = (h, w, e)
rule7 s r (out c a w o e) q = absurd (omega arith)
rule7 s r (held c a w o e) q = absurd (omega (arith, accepted-number c a))

rule3 : (s : List ℕ) (r : Line) → Answer s r → line_refusal r ≡ 3 → (c : Content) × AfterHeader c × Writable c × (in_range c ≡ false) × (s ≡ bytes_of c)
rule3 s r (long l) q = absurd (omega arith)
rule3 s r (formless l n) q = absurd (omega arith)
rule3 s r (head h w e) q = absurd (omega arith)
rule3 s r (out c a w o e) q = (c, a, w, o, e)
rule3 s r (held c a w o e) q = absurd (omega (arith, accepted-number c a))

numbers :
    (s : List ℕ) (r : Line) → Answer s r →
    (AfterHeader (line_content r) × (line_refusal r ≡ 0)) ⊎ (line_refusal r ≡ 1) ⊎ (line_refusal r ≡ 2) ⊎ (line_refusal r ≡ 7) ⊎ (line_refusal r ≡ 3)
numbers s r (held c a w o e) = inl (rw (accepted-data c a) a, accepted-number c a)
numbers s r (long l) = inr (inl refl)
numbers s r (formless l k) = inr (inr (inl refl))
numbers s r (head h w e) = inr (inr (inr (inl refl)))
numbers s r (out c a w o e) = inr (inr (inr (inr refl)))

rule0 : (s : List ℕ) (r : Line) → Answer s r → line_refusal r ≡ 0 → (c : Content) → line_content r ≡ c → Writable c × (in_range c ≡ true) × (s ≡ bytes_of c)
rule0 s r (long l) q c z = absurd (omega arith)
rule0 s r (formless l n) q c z = absurd (omega arith)
rule0 s r (head h w e) q c z = absurd (omega arith)
rule0 s r (out d b w o e) q c z = absurd (omega arith)
rule0 s r (held d b w o e) q c z =
    subst (λ (x : Content). Writable x × (in_range x ≡ true) × (s ≡ bytes_of x)) (sym (accepted-data d b) ∙ z) (w, o, e)

pub line_reading : (s : List ℕ) → LineReading s (line_of s)
line_reading s = record {
  accepted = λ c a. (
    λ e. rule0 s (line_of s) (answered s) e.0 c e.1,
    λ k. rw (answers s (line_with c) (held c a k.0 k.1 k.2)) (accepted-number c a, accepted-data c a),
  );
  numbers = numbers s (line_of s) (answered s);
  refused1 = (λ e. rule1 s (line_of s) (answered s) e, λ l. ap line_refusal (answers s (Refusal LongLine) (long l)));
  refused2 =
      (λ e. rule2 s (line_of s) (answered s) e, λ k. ap line_refusal (answers s (Refusal Formless) (formless k.0 k.1)));
  refused7 = (
    λ e. rule7 s (line_of s) (answered s) e,
    λ k. ap line_refusal (answers s (Refusal Misplaced) (head k.0 k.1 k.2)),
  );
  refused3 = (
    λ e. rule3 s (line_of s) (answered s) e,
    λ k. ap line_refusal (answers s (Refusal OutOfRange) (out k.0 k.1 k.2 k.3 k.4)),
  );
}

-- The same by the answer's case, for one that is known.
pub line-accepted : (s : List ℕ) (c : Content) → AfterHeader c → (line_of s ≡ line_with c) ↔ (Writable c × (in_range c ≡ true) × (s ≡ bytes_of c))
line-accepted s c a = (
  λ e. ((line_reading s).accepted c a).0 (ap line_refusal e ∙ accepted-number c a, ap line_content e ∙ accepted-data c a),
  λ k. answers s (line_with c) (held c a k.0 k.1 k.2),
)

-- A number that is not 0 is that of a refusal, and there is no other number.
pub refused-line : (r : Line) (n : ℕ) → line_refusal r ≡ n → (n ≡ 0 → ⊥) → (q : Reason) × (r ≡ Refusal q) × (number_of q ≡ n)
refused-line (LoanLine l) n e z = absurd (z (sym e))
refused-line (PolicyLine p) n e z = absurd (z (sym e))
refused-line (DerivativeLine d) n e z = absurd (z (sym e))
refused-line (AssetLine a) n e z = absurd (z (sym e))
refused-line (AmountLine a) n e z = absurd (z (sym e))
refused-line (IndexLine i) n e z = absurd (z (sym e))
refused-line (MarkRead m) n e z = absurd (z (sym e))
refused-line (Refusal q) n e z = (q, refl, e)

pub line_numbers : (s : List ℕ) (q : Reason) → line_of s ≡ Refusal q → (number_of q ≡ 1) ⊎ (number_of q ≡ 2) ⊎ (number_of q ≡ 7) ⊎ (number_of q ≡ 3)
line_numbers s q e =
    let same : number_of q ≡ line_refusal (line_of s) = sym (ap line_refusal e) in
    ⊎_elim (λ k. absurd (subst (λ (r : Line). AfterHeader (line_content r)) e k.0))
    (⊎_elim (λ k. inl (same ∙ k)) (⊎_elim (λ k. inr (inl (same ∙ k))) (⊎_elim (λ k. inr (inr (inl (same ∙ k)))) (λ k. inr (inr (inr (same ∙ k)))))))
    (line_reading s).numbers
