-- The lines still standing, fed alone to a book just opened. Assumes nothing.
use mathlib.Core.Path.{◌≡◌, refl, sym, ◌∙◌, ap, ap₂, subst}
use mathlib.Core.Bool.{Bool, true, false}
use mathlib.Core.List.{List, [], ◌∷◌, ◌++◌}
use Prim.Native.Nat.{ℕ, zero, suc}
use lib.Dec.{eqb}
use lib.ListN.{get_or, take}
use borrow.Author.Tests.{eqb-true, eqb-false}
use Rattle.exact.specs.Choice.{pick}
use Rattle.line_forms.specs.declared.Content.{Content}
use Rattle.line_forms.specs.declared.Content.TheVariants.{Header as header, Loan as loan, Policy as policy, Derivative as derivative, Asset as asset}
use Rattle.line_forms.specs.declared.Content.TheVariants.{Amount as amount, Index as index, Mark as mark, NoForm}
use Rattle.line_forms.specs.Claims.{line_refusal, line_content}
use Rattle.line_forms.specs.Readings.{line_of}
use Rattle.figures.specs.declared.Counts.{Counts}
use Rattle.book_model.specs.Accepted.{Note, Accepted, counts_in, refusal_for, kept_by, refusal_of, no_note, place_of_note, taken_up, noted, added}
use Rattle.book_model.specs.Accepted.{with_mark, accept}
use Rattle.book_model.specs.Calls.{opening}
use Rattle.book_model.specs.Demand3.{after_lines}
use Rattle.book_model.specs.History.{History, opened, fed, all_fed, header_line, sheet_of, terms_of, accepted_of, lines_taken}
use Rattle.book_model.specs.LineKinds.{of_mark, content_kind, kind_of}
use Rattle.book_model.specs.Marks.{Kept}
use Rattle.book_model.specs.Standing.{SameBook, standing_alone}
use Rattle.book_model.specs.Terms.{Terms, Basis, basis_of}
use Rattle.book_model.proofs.Demand3.{terms-stay, reached}
use Rattle.book_model.proofs.FreshScores.{opened_with, stays}
use Rattle.book_model.proofs.Ledger.{Plain, taken-plain, accepts, leaves}
use Rattle.book_model.proofs.MarkRows.{HeldMark, a_mark, no_mark, held-mark}
use Rattle.book_model.proofs.Steps.{state_of}
use Rattle.book_model.proofs.TakenWhole.{unmarked, InTurn, one-in-turn, taken-in-turn, none-taken}

-- the lists noted under marks, each taken line by line
unfoldable Chains : Terms → List Note → Type 0
Chains t [] = Unit {0}
Chains t (n ∷ notes) = InTurn t [] n.list × Chains t notes

chains-more : (t : Terms) (notes : List Note) (n : Note) → Chains t notes → InTurn t [] n.list → Chains t (notes ++ (n ∷ []))
unfolding Chains
chains-more t [] n h k = (k, tt)
chains-more t (m ∷ notes) n h k = (h.0, chains-more t notes n h.1 k)

chains-first : (t : Terms) (k : ℕ) (notes : List Note) → Chains t notes → Chains t (take k notes)
unfolding Chains
chains-first t zero notes h = tt
chains-first t (suc k) [] h = tt
chains-first t (suc k) (n ∷ notes) h = (h.0, chains-first t k notes h.1)

chain-at : (t : Terms) (k : ℕ) (notes : List Note) → Chains t notes → InTurn t [] (get_or notes k no_note).list
unfolding Chains InTurn
chain-at t k [] h = tt
chain-at t zero (n ∷ notes) h = h.0
chain-at t (suc k) (n ∷ notes) h = chain-at t k notes h.1

record Chained (t : Terms) (a : Accepted) : Type 0 where
  pub kept : InTurn t [] a.kept
  pub notes : Chains t a.notes

-- marks decide no refusal but those of marks
by_kind : (g : Basis) (c : Counts) (k l : Kept) (n : ℕ) (d : Content) → Plain (content_kind n d) →
    refusal_for g c k (content_kind n d) ≡ refusal_for g c l (content_kind n d)
unfolding refusal_for content_kind
by_kind g c k l n (header h) p = refl
by_kind g c k l n (loan x) p = refl
by_kind g c k l n (policy x) p = refl
by_kind g c k l n (derivative d) p = refl
by_kind g c k l n (asset x) p = refl
by_kind g c k l n (amount x) p = refl
by_kind g c k l n (index i) p = refl
by_kind g c k l n (mark m) p = absurd p
by_kind g c k l n NoForm p = refl

accept-chained : (t : Terms) (a : Accepted) (s : List ℕ) → Chained t a → Chained t (accept t a s)
accept-chained t a s h = go (eqb (refusal_of t a s) 0) refl
  where
    of-mark : (b : Bool) (name : ℕ) → Chained t (pick b (taken_up a name) (noted a name))
    of-mark true name = record {
      kept = chain-at t (place_of_note a name) a.notes h.notes;
      notes = chains-first t (suc (place_of_note a name)) a.notes h.notes;
    }
    of-mark false name = record { kept = h.kept; notes = chains-more t a.notes (record { name = name; list = a.kept }) h.notes h.kept }

    of_either : {c : Content} → HeldMark c → line_content (line_of s) ≡ c → refusal_of t a s ≡ 0 → Chained t (of_mark (with_mark a) (added a s) c)
    of_either (a_mark m) f e = of-mark m.back m.name
    of_either {c} (no_mark k) f e =
        let p : Plain (kind_of (line_of s)) = taken-plain (basis_of t a.kept) (counts_in a.kept) (kept_by a.notes) s e (λ A g x. ap (of_mark g x) f ∙ k A g x) in
        rw (k Accepted (with_mark a) (added a s))
        (record {
          kept = one-in-turn t a.kept s h.kept
              (sym (by_kind (basis_of t a.kept) (counts_in a.kept) (kept_by a.notes) (kept_by []) (line_refusal (line_of s)) (line_content (line_of s)) p)
              ∙ e) p;
          notes = h.notes;
        })

    go : (test : Bool) → eqb (refusal_of t a s) 0 ≡ test → Chained t (accept t a s)
    go true e =
        let z = eqb-true (refusal_of t a s) 0 e in
        subst (Chained t) (sym (accepts t a s z)) (of_either (held-mark (line_content (line_of s))) refl z)
    go false e = subst (Chained t) (sym (leaves t a s (eqb-false (refusal_of t a s) 0 e))) h

-- every history's ledger is such
chained-of : (past : History) → Chained (terms_of past) (accepted_of past)
unfolding accepted_of terms_of Chains InTurn
chained-of (opened sheet first) = record { kept = tt; notes = tt }
chained-of (fed past line) = accept-chained (terms_of past) (accepted_of past) line (chained-of past)

-- The lines still standing of any history, fed alone, are all taken, in their order, and no mark is kept;
pub alone : (past : History) → accepted_of (standing_alone past) ≡ unmarked (lines_taken past)
unfolding terms_of
alone past =
    taken-in-turn (opened (sheet_of past) (header_line past)) [] (lines_taken past) (none-taken (sheet_of past) (header_line past))
    (subst (λ (t : Terms). InTurn t [] (lines_taken past)) (opened_with past) (chained-of past).kept)

-- they give the same book
pub alone-state : (past : History) →
    SameBook (state_of (terms_of (standing_alone past)) (accepted_of (standing_alone past))) (state_of (terms_of past) (accepted_of past))
unfolding terms_of
alone-state past =
    rw (terms-stay (opened (sheet_of past) (header_line past)) (lines_taken past), alone past, opened_with past)
    (record { book = refl; rates = refl; cells = refl; index = refl })

-- as the lines that led there.
pub alone_book : (sheet first : List ℕ) (lines : List (List ℕ)) →
    SameBook (after_lines (opening sheet first).state (lines_taken (all_fed (opened sheet first) lines))) (after_lines (opening sheet first).state lines)
unfolding sheet_of header_line
alone_book sheet first lines =
    let past : History = all_fed (opened sheet first) lines in
    let o : opened (sheet_of past) (header_line past) ≡ opened sheet first =
    ap₂ opened (stays (opened sheet first) lines).1 (stays (opened sheet first) lines).0 in
    rw (reached sheet first lines, reached sheet first (lines_taken past))
    (subst (λ (h : History). SameBook (state_of (terms_of (all_fed h (lines_taken past))) (accepted_of (all_fed h (lines_taken past))))
    (state_of (terms_of past) (accepted_of past))) o (alone-state past))
