-- A line from its pieces, each written to what remains of the buffer; and its length.
-- Assumes nothing.
use mathlib.Core.Path.{◌≡◌, sym, ap, subst, ◌∙◌}
use mathlib.Core.List.{List, [], ◌∷◌, ◌++◌, append_assoc, append-nil}
use Prim.Native.Nat.{ℕ, ◌+◌, ◌-◌, ◌^◌, ◌≤◌, ◌<◌}
use native.Mathlib.Omega.{arith}
use lib.ListN.{length, take, drop, length-append}
use Rattle.fixed_point.specs.declared.Signed.{Signed}
use Rattle.exact.specs.Text.{text}
use Rattle.report.specs.Decimal.{signed}
use Rattle.report.specs.Line.{spaced, line, Written}
use Rattle.report.proofs.Decimal.{signed-length}
use Rattle.report.proofs.Onto.{written-more}

-- a line's text before its end
abbrev begun : List ℕ → List (List ℕ) → List ℕ
begun name fields = text "(" ++ name ++ spaced fields

-- a line is written so far, in a bytes
pub record Begun (old name : List ℕ) (fields : List (List ℕ)) (a : ℕ) (xs : List ℕ) : Type 0 where
  pub so_far : Written old (begun name fields) a xs

spaced-more : (ws : List (List ℕ)) (w : List ℕ) → spaced (ws ++ (w ∷ [])) ≡ spaced ws ++ (text " " ++ w)
spaced-more [] w = ap (λ (t : List ℕ). text " " ++ t) (append-nil w)
spaced-more (v ∷ ws) w =
    ap (λ (t : List ℕ). text " " ++ v ++ t) (spaced-more ws w) ∙ ap (λ (t : List ℕ). text " " ++ t) (sym (append_assoc v (spaced ws) (text " " ++ w)))

module _ {old name xs : List ℕ} {a : ℕ} where
  pub begin : Written old (text "(" ++ name) a xs → Begun old name [] a xs
  begin w = record { so_far = subst (λ (t : List ℕ). Written old (text "(" ++ t) a xs) (sym (append-nil name)) w }

  module _ {ys : List ℕ} {r : ℕ} {fields : List (List ℕ)} where
    -- a field more, written to what remains
    pub field :
        {w : List ℕ} →
        Begun old name fields a xs →
        Written (take (length xs - a) (drop a xs)) (text " " ++ w) r ys →
        Begun old name (fields ++ (w ∷ [])) (a + r) (take a xs ++ (ys ++ drop (length xs - a) (drop a xs)))
    field {w} b p = record {
      so_far = subst (λ (t : List ℕ). Written old t (a + r) (take a xs ++ (ys ++ drop (length xs - a) (drop a xs))))
          (ap (λ (t : List ℕ). text "(" ++ t) (append_assoc name (spaced fields) (text " " ++ w) ∙ ap (λ (t : List ℕ). name ++ t) (sym (spaced-more fields w))))
          (written-more b.so_far p);
    }

    pub end :
        Begun old name fields a xs →
        Written (take (length xs - a) (drop a xs)) (text ")\n") r ys →
        Written old (line name fields) (a + r) (take a xs ++ (ys ++ drop (length xs - a) (drop a xs)))
    end b p = written-more b.so_far p

pub line-length : (name : List ℕ) (ws : List (List ℕ)) → length (line name ws) ≡ length name + length (spaced ws) + 3
line-length name ws =
    omega (arith, length-append (name ++ spaced ws) (text ")\n"), length-append name (spaced ws))

pub spaced-length : (w : List ℕ) (ws : List (List ℕ)) → length (spaced (w ∷ ws)) ≡ length w + length (spaced ws) + 1
spaced-length w ws = omega (arith, length-append w (spaced ws))

pub one-length : (name v : List ℕ) → length (line name (v ∷ [])) ≡ length name + length v + 4
one-length name v = omega (arith, line-length name (v ∷ []), spaced-length v [])

pub two-length : (name v w : List ℕ) → length (line name (v ∷ w ∷ [])) ≡ length name + length v + length w + 5
two-length name v w = omega (arith, line-length name (v ∷ w ∷ []), spaced-length v (w ∷ []), spaced-length w [])

-- a line with a number of 64 bits
pub value-line-length :
    (name : List ℕ) (v : Signed) → v.plus < 2 ^ 64 → v.minus < 2 ^ 64 → length (line name (signed v ∷ [])) ≤ length name + 25
value-line-length name v p q =
    omega (arith, one-length name (signed v), signed-length 19 v (omega arith) (omega arith))
