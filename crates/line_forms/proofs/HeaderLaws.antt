-- Header reading answers by the rules of 01, when and only when each holds; and a header in range is read from its bytes.
use Prim.Native.Nat.{ℕ, ◌+◌, ◌≤◌, ◌<◌}
use native.Mathlib.Omega.{arith}
use mathlib.Core.Path.{◌≡◌, refl, sym, ◌∙◌, ap, subst}
use mathlib.Core.Bool.{Bool, true, false}
use mathlib.Core.List.{List}
use borrow.Author.Tests.{lt-ltb, le-ltb, ltb-true, ltb-false}
use lib.Dec.{ltb}
use mathlib.Core.Logic.{◌↔◌, ◌⊎◌, inl, inr, ⊎_elim}
use lib.ListN.{length}
use Rattle.std.specs.Prelude.{Result, Ok, Err}
use Rattle.exact.specs.Choice.{pick}
use Rattle.line_forms.specs.Bytes.{within}
use Rattle.line_forms.specs.Contents.{bytes_of, Writable, in_range, header_in_range}
use Rattle.line_forms.specs.Readings.{header_of, header_for_lem}
use Rattle.line_forms.specs.Claims.{AfterHeader, header_refusal, header_content, NoBytes, HeaderReading, BytesRead}
use Rattle.line_forms.specs.declared.Header.{Header}
use Rattle.line_forms.specs.declared.Content.{Content}
use Rattle.line_forms.specs.declared.Content.TheVariants.{Header as header, Loan as loan, Policy as policy, Derivative as derivative}
use Rattle.line_forms.specs.declared.Content.TheVariants.{Asset as asset, Amount as amount, Index as index, Mark as mark, NoForm}
use Rattle.line_forms.specs.declared.refusal.Refusal.{Refusal as Reason}
use Rattle.line_forms.specs.declared.refusal.Refusal.TheVariants.{LongLine, NoForm as Formless, OutOfRange, OverCounted, Misplaced}
use Rattle.line_forms.specs.Refusals.{number_of}
use Rattle.line_forms.proofs.Bytes.{and_both, within-bounds}
use Rattle.line_forms.proofs.AnswerLaws.{answer-long, answer-none, answer-held, answer-cases}
use Rattle.line_forms.proofs.ContentLaws.{content-written}
use Rattle.line_forms.proofs.Sizes.{content-size}

-- The rules of header reading, one for each answer.
data Answer (s : List ℕ) : Result Header Reason → Type 0 where
  long : 240 < length s → Answer s (Err LongLine)
  formless : length s ≤ 240 → NoBytes s → Answer s (Err Formless)
  other : (c : Content) → AfterHeader c → Writable c → s ≡ bytes_of c → Answer s (Err Misplaced)
  out : (h : Header) → Writable (header h) → in_range (header h) ≡ false → s ≡ bytes_of (header h) → Answer s (Err OutOfRange)
  over : (h : Header) → Writable (header h) → in_range (header h) ≡ true → h.loans < h.unscored + h.fresh → s ≡ bytes_of (header h) → Answer s (Err OverCounted)
  held : (h : Header) → Writable (header h) → in_range (header h) ≡ true → h.unscored + h.fresh ≤ h.loans → s ≡ bytes_of (header h) → Answer s (Ok h)

judged :
    (s : List ℕ) (h : Header) → Writable (header h) → s ≡ bytes_of (header h) → (b : Bool) → in_range (header h) ≡ b →
    (d : Bool) → ltb h.loans (h.unscored + h.fresh) ≡ d →
    Answer s (pick b (pick d (Err OverCounted) (Ok h)) (Err OutOfRange))
judged s h w e true r true x = over h w r (ltb-true h.loans (h.unscored + h.fresh) x) e
judged s h w e true r false x = held h w r (ltb-false h.loans (h.unscored + h.fresh) x) e
judged s h w e false r true x = out h w r e
judged s h w e false r false x = out h w r e

answer-for : (s : List ℕ) (c : Content) → Writable c → s ≡ bytes_of c → Answer s (header_for_lem c)
unfolding header_for_lem in_range
answer-for s (header h) w e = judged s h w e (in_range (header h)) refl (ltb h.loans (h.unscored + h.fresh)) refl
answer-for s (loan x) w e = other (loan x) tt w e
answer-for s (policy x) w e = other (policy x) tt w e
answer-for s (derivative x) w e = other (derivative x) tt w e
answer-for s (asset x) w e = other (asset x) tt w e
answer-for s (amount x) w e = other (amount x) tt w e
answer-for s (index x) w e = other (index x) tt w e
answer-for s (mark x) w e = other (mark x) tt w e
answer-for s NoForm w e = absurd w

-- the answer obeys a rule
answered : (s : List ℕ) → Answer s (header_of s)
unfolding header_of header_for_lem
answered s = answer-cases (Err LongLine) header_for_lem s (λ r. Answer s r) (λ l. long l) (λ l n. formless l n) (λ c w e. answer-for s c w e)

-- a rule gives its answer
other-form : (c : Content) → AfterHeader c → header_for_lem c ≡ Err Misplaced
unfolding header_for_lem
other-form (header h) a = absurd a
other-form (loan x) a = refl
other-form (policy x) a = refl
other-form (derivative x) a = refl
other-form (asset x) a = refl
other-form (amount x) a = refl
other-form (index x) a = refl
other-form (mark x) a = refl
other-form NoForm a = absurd a

header-range :
    (h : Header) →
    header_for_lem (header h) ≡ pick (in_range (header h)) (pick (ltb h.loans (h.unscored + h.fresh)) (Err OverCounted) (Ok h)) (Err OutOfRange)
unfolding header_for_lem in_range
header-range h = refl

read_as : (s : List ℕ) (c : Content) → Writable c → s ≡ bytes_of c → header_of s ≡ header_for_lem c
unfolding header_of
read_as s c w e = answer-held (Err LongLine) header_for_lem s c w e

answers : (s : List ℕ) (r : Result Header Reason) → Answer s r → header_of s ≡ r
unfolding header_of header_for_lem
answers s r (long l) = answer-long (Err LongLine) header_for_lem s l
answers s r (formless l n) = answer-none (Err LongLine) header_for_lem s l n
answers s r (other c a w e) = read_as s c w e ∙ other-form c a
answers s r (out h w o e) = read_as s (header h) w e ∙ header-range h ∙ rw o
answers s r (over h w o l e) = read_as s (header h) w e ∙ header-range h ∙ rw (o, lt-ltb h.loans (h.unscored + h.fresh) l)
answers s r (held h w o l e) = read_as s (header h) w e ∙ header-range h ∙ rw (o, le-ltb h.loans (h.unscored + h.fresh) l)

-- an answer's number tells the rule
rule1 : (s : List ℕ) (r : Result Header Reason) → Answer s r → header_refusal r ≡ 1 → 240 < length s
rule1 s r (long l) q = l
rule1 s r (formless l n) q = absurd (omega arith)
rule1 s r (other c a w e) q = absurd (omega arith)
rule1 s r (out h w o e) q = absurd (omega arith)
rule1 s r (over h w o l e) q = absurd (omega arith)
rule1 s r (held h w o l e) q = absurd (omega arith)

rule2 : (s : List ℕ) (r : Result Header Reason) → Answer s r → header_refusal r ≡ 2 → (length s ≤ 240) × NoBytes s
rule2 s r (long l) q = absurd (omega arith)
rule2 s r (formless l n) q = (l, n)
rule2 s r (other c a w e) q = absurd (omega arith)
rule2 s r (out h w o e) q = absurd (omega arith)
rule2 s r (over h w o l e) q = absurd (omega arith)
rule2 s r (held h w o l e) q = absurd (omega arith)

rule7 : (s : List ℕ) (r : Result Header Reason) → Answer s r → header_refusal r ≡ 7 → (c : Content) × AfterHeader c × Writable c × (s ≡ bytes_of c)
rule7 s r (long l) q = absurd (omega arith)
rule7 s r (formless l n) q = absurd (omega arith)
rule7 s r (other c a w e) q = (c, a, w, e)
rule7 s r (out h w o e) q = absurd (omega arith)
rule7 s r (over h w o l e) q = absurd (omega arith)
rule7 s r (held h w o l e) q = absurd (omega arith)

rule3 :
    (s : List ℕ) (r : Result Header Reason) → Answer s r → header_refusal r ≡ 3 →
    (h : Header) × Writable (header h) × (in_range (header h) ≡ false) × (s ≡ bytes_of (header h))
rule3 s r (long l) q = absurd (omega arith)
rule3 s r (formless l n) q = absurd (omega arith)
rule3 s r (other c a w e) q = absurd (omega arith)
rule3 s r (out h w o e) q = (h, w, o, e)
rule3 s r (over h w o l e) q = absurd (omega arith)
rule3 s r (held h w o l e) q = absurd (omega arith)

rule4 :
    (s : List ℕ) (r : Result Header Reason) → Answer s r → header_refusal r ≡ 4 →
    (h : Header) × Writable (header h) × (in_range (header h) ≡ true) × (h.loans < h.unscored + h.fresh) × (s ≡ bytes_of (header h))
rule4 s r (long l) q = absurd (omega arith)
rule4 s r (formless l n) q = absurd (omega arith)
rule4 s r (other c a w e) q = absurd (omega arith)
rule4 s r (out h w o e) q = absurd (omega arith)
rule4 s r (over h w o l e) q = (h, w, o, l, e)
rule4 s r (held h w o l e) q = absurd (omega arith)

numbers :
    (s : List ℕ) (r : Result Header Reason) → Answer s r →
    ((h : Header) × (header_content r ≡ header h) × (header_refusal r ≡ 0)) ⊎
    (header_refusal r ≡ 1) ⊎ (header_refusal r ≡ 2) ⊎ (header_refusal r ≡ 7) ⊎ (header_refusal r ≡ 3) ⊎ (header_refusal r ≡ 4)
numbers s r (held h w o l e) = inl (h, refl, refl)
numbers s r (long l) = inr (inl refl)
numbers s r (formless l k) = inr (inr (inl refl))
numbers s r (other c a w e) = inr (inr (inr (inl refl)))
numbers s r (out h w o e) = inr (inr (inr (inr (inl refl))))
numbers s r (over h w o l e) = inr (inr (inr (inr (inr refl))))

-- the header among a form's data, or another
header_in : Header → Content → Header
header_in g (header h) = h
header_in g (loan x) = g
header_in g (policy x) = g
header_in g (derivative x) = g
header_in g (asset x) = g
header_in g (amount x) = g
header_in g (index x) = g
header_in g (mark x) = g
header_in g NoForm = g

rule0 :
    (s : List ℕ) (r : Result Header Reason) → Answer s r → header_refusal r ≡ 0 → (g : Header) → header_content r ≡ header g →
    Writable (header g) × (in_range (header g) ≡ true) × (g.unscored + g.fresh ≤ g.loans) × (s ≡ bytes_of (header g))
unfolding header_in
rule0 s r (long l) q g z = absurd (omega arith)
rule0 s r (formless l n) q g z = absurd (omega arith)
rule0 s r (other c a w e) q g z = absurd (omega arith)
rule0 s r (out h w o e) q g z = absurd (omega arith)
rule0 s r (over h w o l e) q g z = absurd (omega arith)
rule0 s r (held h w o l e) q g z =
    subst (λ (x : Header). Writable (header x) × (in_range (header x) ≡ true) × (x.unscored + x.fresh ≤ x.loans) × (s ≡ bytes_of (header x)))
    (ap (header_in g) z)
    (w, o, l, e)

pub header_reading : (s : List ℕ) → HeaderReading s (header_of s)
header_reading s = record {
  accepted = λ h. (
    λ e. rule0 s (header_of s) (answered s) e.0 h e.1,
    λ k. rw (answers s (Ok h) (held h k.0 k.1 k.2 k.3)) (refl, refl),
  );
  numbers = numbers s (header_of s) (answered s);
  refused1 = (λ e. rule1 s (header_of s) (answered s) e, λ l. ap header_refusal (answers s (Err LongLine) (long l)));
  refused2 = (
    λ e. rule2 s (header_of s) (answered s) e,
    λ k. ap header_refusal (answers s (Err Formless) (formless k.0 k.1)),
  );
  refused7 = (
    λ e. rule7 s (header_of s) (answered s) e,
    λ k. ap header_refusal (answers s (Err Misplaced) (other k.0 k.1 k.2 k.3)),
  );
  refused3 = (
    λ e. rule3 s (header_of s) (answered s) e,
    λ k. ap header_refusal (answers s (Err OutOfRange) (out k.0 k.1 k.2 k.3)),
  );
  refused4 = (
    λ e. rule4 s (header_of s) (answered s) e,
    λ k. ap header_refusal (answers s (Err OverCounted) (over k.0 k.1 k.2 k.3 k.4)),
  );
}

-- The same by the answer's case, for one that is known.
pub header-accepted :
    (s : List ℕ) (h : Header) →
    (header_of s ≡ Ok h) ↔ (Writable (header h) × (in_range (header h) ≡ true) × (h.unscored + h.fresh ≤ h.loans) × (s ≡ bytes_of (header h)))
header-accepted s h = (
  λ e. ((header_reading s).accepted h).0 (ap header_refusal e, ap header_content e),
  λ k. answers s (Ok h) (held h k.0 k.1 k.2 k.3),
)

-- a header in its ranges has numbers that a D can write
header-written : (h : Header) → in_range (header h) ≡ true → h.unscored + h.fresh ≤ h.loans → Writable (header h)
unfolding in_range header_in_range
header-written h r u =
    let a = and_both (within 0 1000000 h.loans) (within 0 10000000000000 h.held) r in
    let b = within-bounds 0 1000000 h.loans a.0 in
    let d = within-bounds 0 10000000000000 h.held a.1 in
    (omega arith, (omega arith, (omega arith, (omega arith, tt))))

pub bytes_read : BytesRead
bytes_read = record {
  short = content-size;
  back = λ c w. content-written (bytes_of c) c w refl;
  header_back = λ h r u.
      answers (bytes_of (header h)) (Ok h) (held h (header-written h r u) r u refl);
}

-- A number that is not 0 is that of a refusal, and there is no other number.
pub refused-header : (r : Result Header Reason) (n : ℕ) → header_refusal r ≡ n → (n ≡ 0 → ⊥) → (q : Reason) × (r ≡ Err q) × (number_of q ≡ n)
refused-header (Ok h) n e z = absurd (z (sym e))
refused-header (Err q) n e z = (q, refl, e)

pub header-numbers :
    (s : List ℕ) (q : Reason) → header_of s ≡ Err q →
    (number_of q ≡ 1) ⊎ (number_of q ≡ 2) ⊎ (number_of q ≡ 7) ⊎ (number_of q ≡ 3) ⊎ (number_of q ≡ 4)
header-numbers s q e =
    let same : number_of q ≡ header_refusal (header_of s) = sym (ap header_refusal e) in
    ⊎_elim (λ (h, k, z). absurd (no_header h (sym (ap header_content e) ∙ k)))
    (⊎_elim (λ k. inl (same ∙ k)) (⊎_elim (λ k. inr (inl (same ∙ k))) (⊎_elim (λ k. inr (inr (inl (same ∙ k))))
    (⊎_elim (λ k. inr (inr (inr (inl (same ∙ k))))) (λ k. inr (inr (inr (inr (same ∙ k)))))))))
    (header_reading s).numbers
  where
    no_header : (h : Header) → NoForm ≡ header h → ⊥
    no_header h k = let z : ◌≡◌ {A = ℕ} 0 1 = cc in omega arith
