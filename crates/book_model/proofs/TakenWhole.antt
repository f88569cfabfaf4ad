-- A list of lines, index lines first, that keeps to the counts and sets no value twice is taken whole. Assumes nothing.
use mathlib.Core.Path.{◌≡◌, refl, sym, ◌∙◌, ap, subst}
use mathlib.Core.List.{List, [], ◌∷◌, ◌++◌, append_assoc, append-nil, Memᴰ}
use Prim.Native.Nat.{ℕ, ◌+◌}
use native.Mathlib.Omega.{arith}
use borrow.Author.Tests.{lt-leb, eq-eqb}
use Rattle.line_forms.specs.declared.IndexValue.{IndexValue}
use Rattle.line_forms.specs.declared.MarkLine.{MarkLine}
use Rattle.line_forms.specs.declared.Content.{Content}
use Rattle.line_forms.specs.declared.Content.TheVariants.{Header as header, Loan as loan, Policy as policy, Derivative as derivative, Asset as asset}
use Rattle.line_forms.specs.declared.Content.TheVariants.{Amount as amount, Index as index, Mark as mark, NoForm}
use Rattle.line_forms.specs.declared.Header.{Header}
use Rattle.line_forms.specs.Claims.{line_refusal, line_content}
use Rattle.line_forms.specs.Readings.{line_of}
use Rattle.figures.specs.declared.Counts.{Counts}
use Rattle.figures.specs.Sums.{no_counts, counts_sum_lem}
use Rattle.book_model.specs.Accepted.{Accepted, counts_in, most_other, refusal_for, kept_by, refusal_of, added, with_mark, accept}
use Rattle.book_model.specs.History.{History, opened, fed, all_fed, terms_of, accepted_of}
use Rattle.book_model.specs.HouseIndex.{Index, set_by, values_in}
use Rattle.book_model.specs.LineKinds.{of_mark, content_kind, kind_of, kind_counts, line_counts, sum_by}
use Rattle.book_model.specs.Marks.{Kept}
use Rattle.book_model.specs.Terms.{Terms, Basis, basis_of}
use Rattle.book_model.proofs.Adjustments.{Has}
use Rattle.book_model.proofs.Demand3.{one_more}
use Rattle.book_model.proofs.Feeding.{Room}
use Rattle.book_model.proofs.IndexTables.{HeldIndex, an_index, no_index, held-index}
use Rattle.book_model.proofs.Ledger.{Plain, accepts, values-more, own_value}
use Rattle.book_model.proofs.SplitLines.{sum-append}
use Rattle.book_model.proofs.Tests.{unscored-is, fresh-is, loan-test}

-- Counts of two lists

counts-none : (c : Counts) → counts_sum_lem no_counts c ≡ c
counts-none c =
    let a : 0 + c.loans ≡ c.loans = omega arith in
    let b : 0 + c.unscored ≡ c.unscored = omega arith in
    let f : 0 + c.fresh ≡ c.fresh = omega arith in
    let o : 0 + c.other ≡ c.other = omega arith in
    λ i. record { loans = a i; unscored = b i; fresh = f i; other = o i }

counts-assoc : (x y z : Counts) → counts_sum_lem x (counts_sum_lem y z) ≡ counts_sum_lem (counts_sum_lem x y) z
counts-assoc x y z =
    let a : x.loans + (y.loans + z.loans) ≡ x.loans + y.loans + z.loans = omega arith in
    let b : x.unscored + (y.unscored + z.unscored) ≡ x.unscored + y.unscored + z.unscored = omega arith in
    let f : x.fresh + (y.fresh + z.fresh) ≡ x.fresh + y.fresh + z.fresh = omega arith in
    let o : x.other + (y.other + z.other) ≡ x.other + y.other + z.other = omega arith in
    λ i. record { loans = a i; unscored = b i; fresh = f i; other = o i }

pub counts-both : (xs ys : List (List ℕ)) → counts_in (xs ++ ys) ≡ counts_sum_lem (counts_in xs) (counts_in ys)
unfolding counts_in
counts-both [] ys = sym (counts-none (counts_in ys))
counts-both (x ∷ xs) ys = ap (counts_sum_lem (line_counts x)) (counts-both xs ys) ∙ counts-assoc (line_counts x) (counts_in xs) (counts_in ys)

-- fewer lines fit too
fewer : {h : Header} (x y z : Counts) → Room h (counts_sum_lem x (counts_sum_lem y z)) → Room h (counts_sum_lem x y)
fewer x y z r = record {
  loans = omega (arith, r.loans);
  unscored = omega (arith, r.unscored);
  fresh = omega (arith, r.fresh);
  other = omega (arith, r.other);
}

-- One line: none of the refusals applies

module _ (g : Basis) (n : Counts) (k : Kept) (x : ℕ) where
  kind_fits : (c : Content) → Plain (content_kind x c) → Room g.terms.header (counts_sum_lem n (kind_counts (content_kind x c))) → Has g.index c →
      ((i : IndexValue) → c ≡ index i → g.index i.area i.month ≡ 0) → refusal_for g n k (content_kind x c) ≡ 0
  unfolding refusal_for content_kind kind_counts
  kind_fits (header h) p r a u = absurd p
  kind_fits (loan l) p r a u =
      rw (
        (loan-test g.terms.header n l.score).fails.1 (
          omega (arith, r.loans),
          λ e. omega (arith, (unscored-is l.score).1 e, r.unscored),
          λ e. omega (arith, (fresh-is l.score).1 e, r.fresh),
        ),
        a,
      ) refl
  kind_fits (policy y) p r a u = rw (lt-leb most_other n.other (omega (arith, r.other))) refl
  kind_fits (derivative y) p r a u = rw (lt-leb most_other n.other (omega (arith, r.other))) refl
  kind_fits (asset y) p r a u = rw (lt-leb most_other n.other (omega (arith, r.other))) refl
  kind_fits (amount y) p r a u = rw (lt-leb most_other n.other (omega (arith, r.other))) refl
  kind_fits (index i) p r a u = rw (lt-leb most_other n.other (omega (arith, r.other)), eq-eqb (g.index i.area i.month) 0 (u i refl)) refl
  kind_fits (mark m) p r a u = absurd p
  kind_fits NoForm p r a u = absurd p

-- a line that counts is no mark
plain-added : {A : Type 0} (x : ℕ) (c : Content) → Plain (content_kind x c) → (f : MarkLine → A) (y : A) → of_mark f y c ≡ y
unfolding content_kind
plain-added x (header h) p f y = refl
plain-added x (loan l) p f y = refl
plain-added x (policy l) p f y = refl
plain-added x (derivative l) p f y = refl
plain-added x (asset l) p f y = refl
plain-added x (amount l) p f y = refl
plain-added x (index l) p f y = refl
plain-added x (mark l) p f y = absurd p
plain-added x NoForm p f y = refl

-- no mark is noted
abbrev pub unmarked : List (List ℕ) → Accepted
unmarked kept = record { kept = kept; notes = [] }

-- lines that are taken one after another where `done` are
unfoldable pub InTurn : Terms → (done lines : List (List ℕ)) → Type 0
InTurn t done [] = Unit {0}
InTurn t done (s ∷ lines) = (refusal_of t (unmarked done) s ≡ 0) × Plain (kind_of (line_of s)) × InTurn t (done ++ (s ∷ [])) lines

-- just opened
pub none-taken : (sheet line : List ℕ) → accepted_of (opened sheet line) ≡ unmarked []
unfolding accepted_of
none-taken sheet line = refl

pub taken-in-turn : (past : History) (done lines : List (List ℕ)) → accepted_of past ≡ unmarked done → InTurn (terms_of past) done lines →
    accepted_of (all_fed past lines) ≡ unmarked (done ++ lines)
unfolding all_fed InTurn
taken-in-turn past done [] e h = e ∙ ap unmarked (sym (append-nil done))
taken-in-turn past done (s ∷ lines) e (z, p, h) =
    let one : accepted_of (fed past s) ≡ unmarked (done ++ (s ∷ [])) =
    sym (one_more past s).1 ∙ ap (λ (a : Accepted). accept (terms_of past) a s) e ∙ accepts (terms_of past) (unmarked done) s z
    ∙ plain-added (line_refusal (line_of s)) (line_content (line_of s)) p (with_mark (unmarked done)) (added (unmarked done) s) in
    taken-in-turn (fed past s) (done ++ (s ∷ [])) lines one
    (subst (λ (t : Terms). InTurn t (done ++ (s ∷ [])) lines) (sym (one_more past s).0) h)
    ∙ ap unmarked (append_assoc done (s ∷ []) lines)

-- Values of two lists

pub values-both : (xs ys : List (List ℕ)) (area month : ℕ) → values_in (xs ++ ys) area month ≡ values_in xs area month + values_in ys area month
unfolding values_in
values-both xs ys area month = sum-append (set_by area month) xs ys

-- what an index line first of a list sets
first-sets : (s : List ℕ) (lines : List (List ℕ)) (area month : ℕ) →
    values_in (s ∷ lines) area month ≡ set_by area month (line_content (line_of s)) + values_in lines area month
unfolding values_in sum_by
first-sets s lines area month = refl

-- a line that is none sets nothing
none-sets : (c : Content) → ((i : IndexValue) → c ≡ index i → ⊥) → (area month : ℕ) → set_by area month c ≡ 0
none-sets c n area month = go (held-index c) n
  where
    go : {c : Content} → HeldIndex c → ((i : IndexValue) → c ≡ index i → ⊥) → set_by area month c ≡ 0
    go (an_index i) n = absurd (n i refl)
    go (no_index e) n = e ℕ _ 0

index-plain : (x : ℕ) (i : IndexValue) {c : Content} → c ≡ index i → Plain (content_kind x c) × ((values : Index) → Has values c)
unfolding content_kind
index-plain x i e = (rw e tt, λ values. rw e refl)

-- Index lines of which no two set the same value
pub index-in-turn : (t : Terms) (done lines : List (List ℕ)) →
    ((s : List ℕ) → Memᴰ s lines → (i : IndexValue) × (line_content (line_of s) ≡ index i)) →
    ((s : List ℕ) (i : IndexValue) → Memᴰ s lines → line_content (line_of s) ≡ index i → values_in (done ++ lines) i.area i.month ≡ i.value) →
    Room t.header (counts_in (done ++ lines)) → InTurn t done lines
unfolding InTurn counts_in
index-in-turn t done [] x once r = tt
index-in-turn t done (s ∷ lines) x once r =
    let m : Memᴰ s (s ∷ lines) = mathlib.Core.List.Memᴰ.head refl in
    let (i, c) = x s m in
    let (p, has) = index-plain (line_refusal (line_of s)) i c in
    let room : Room t.header (counts_sum_lem (counts_in done) (counts_sum_lem (line_counts s) (counts_in lines))) = rw (counts-both done (s ∷ lines)) at r in
    let unset : (v : IndexValue) → line_content (line_of s) ≡ index v → values_in done v.area v.month ≡ 0 = λ v e. omega (
      arith,
      values-both done (s ∷ lines) v.area v.month,
      first-sets s lines v.area v.month,
      ap (set_by v.area v.month) e ∙ own_value v,
      once s v m e,
    ) in
    let again : (done ++ (s ∷ [])) ++ lines ≡ done ++ (s ∷ lines) = append_assoc done (s ∷ []) lines in (
      kind_fits (basis_of t done) (counts_in done) (kept_by []) (line_refusal (line_of s)) (line_content (line_of s)) p
          (fewer (counts_in done) (line_counts s) (counts_in lines) room) (has (values_in done)) unset,
      p,
      index-in-turn t (done ++ (s ∷ [])) lines (λ q k. x q (mathlib.Core.List.Memᴰ.tail k))
          (λ q v k e. rw again (once q v (mathlib.Core.List.Memᴰ.tail k) e)) (rw again r),
    )

-- Other lines whose loans have their values
pub others-in-turn : (t : Terms) (done lines : List (List ℕ)) → ((s : List ℕ) → Memᴰ s lines → Plain (kind_of (line_of s))) →
    ((s : List ℕ) → Memᴰ s lines → (i : IndexValue) → line_content (line_of s) ≡ index i → ⊥) →
    ((s : List ℕ) → Memᴰ s lines → Has (values_in done) (line_content (line_of s))) →
    Room t.header (counts_in (done ++ lines)) → InTurn t done lines
unfolding InTurn counts_in
others-in-turn t done [] p n a r = tt
others-in-turn t done (s ∷ lines) p n a r =
    let m : Memᴰ s (s ∷ lines) = mathlib.Core.List.Memᴰ.head refl in
    let room : Room t.header (counts_sum_lem (counts_in done) (counts_sum_lem (line_counts s) (counts_in lines))) = rw (counts-both done (s ∷ lines)) at r in
    let again : (done ++ (s ∷ [])) ++ lines ≡ done ++ (s ∷ lines) = append_assoc done (s ∷ []) lines in
    let same : values_in (done ++ (s ∷ [])) ≡ values_in done =
    λ i area month. let e : values_in (done ++ (s ∷ [])) area month ≡ values_in done area month =
    omega (arith, values-more done s area month, none-sets (line_content (line_of s)) (n s m) area month) in e i in (
      kind_fits (basis_of t done) (counts_in done) (kept_by []) (line_refusal (line_of s)) (line_content (line_of s)) (p s m)
          (fewer (counts_in done) (line_counts s) (counts_in lines) room) (a s m) (λ i e. absurd (n s m i e)),
      p s m,
      others-in-turn t (done ++ (s ∷ [])) lines (λ q k. p q (mathlib.Core.List.Memᴰ.tail k)) (λ q k. n q (mathlib.Core.List.Memᴰ.tail k))
          (λ q k. rw same (a q (mathlib.Core.List.Memᴰ.tail k))) (rw again r),
    )

-- Both together

pub record Takeable (t : Terms) (first rest : List (List ℕ)) : Type 0 where
  pub indexed : (s : List ℕ) → Memᴰ s first → (i : IndexValue) × (line_content (line_of s) ≡ index i)
  pub once : (s : List ℕ) (i : IndexValue) → Memᴰ s first → line_content (line_of s) ≡ index i → values_in first i.area i.month ≡ i.value
  pub plain : (s : List ℕ) → Memᴰ s rest → Plain (kind_of (line_of s))
  pub no_index : (s : List ℕ) → Memᴰ s rest → (i : IndexValue) → line_content (line_of s) ≡ index i → ⊥
  pub has : (s : List ℕ) → Memᴰ s rest → Has (values_in first) (line_content (line_of s))
  pub room : Room t.header (counts_in (first ++ rest))

in-turn-both : (t : Terms) (done xs ys : List (List ℕ)) → InTurn t done xs → InTurn t (done ++ xs) ys → InTurn t done (xs ++ ys)
unfolding InTurn
in-turn-both t done [] ys h k = rw (append-nil done) at k
in-turn-both t done (s ∷ xs) ys (z, p, h) k = (z, p, in-turn-both t (done ++ (s ∷ [])) xs ys h (rw (append_assoc done (s ∷ []) xs) k))

-- one line more
pub one-in-turn : (t : Terms) (lines : List (List ℕ)) (s : List ℕ) → InTurn t [] lines → refusal_of t (unmarked lines) s ≡ 0 → Plain (kind_of (line_of s)) →
    InTurn t [] (lines ++ (s ∷ []))
unfolding InTurn
one-in-turn t lines s h e p = in-turn-both t [] lines (s ∷ []) h (e, p, tt)

pub whole-in-turn : (t : Terms) (first rest : List (List ℕ)) → Takeable t first rest → InTurn t [] (first ++ rest)
whole-in-turn t first rest h =
    let r : Room t.header (counts_sum_lem (counts_in first) (counts_in rest)) = rw (counts-both first rest) at h.room in
    let room : Room t.header (counts_in first) = record {
      loans = omega (arith, r.loans);
      unscored = omega (arith, r.unscored);
      fresh = omega (arith, r.fresh);
      other = omega (arith, r.other);
    } in
    in-turn-both t [] first rest (index-in-turn t [] first h.indexed h.once room)
    (others-in-turn t first rest h.plain h.no_index h.has h.room)
