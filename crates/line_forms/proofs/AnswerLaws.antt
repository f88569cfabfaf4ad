-- An answer that goes by a line's length and by what the line holds, as those of line reading and header reading do.
use Prim.Native.Nat.{ℕ, ◌≤◌, ◌<◌}
use native.Mathlib.Decide.{dec_lt}
use native.Mathlib.Omega.{arith}
use mathlib.Core.Path.{◌≡◌, sym, ◌∙◌, ap, subst}
use mathlib.Core.List.{List}
use mathlib.Core.Logic.{⊎_elim}
use borrow.Author.Tests.{lt-ltb, le-ltb}
use lib.Dec.{ltb}
use lib.ListN.{length}
use Rattle.exact.specs.Choice.{pick}
use Rattle.line_forms.specs.Contents.{bytes_of, Writable}
use Rattle.line_forms.specs.Readings.{content_of}
use Rattle.line_forms.specs.Claims.{NoBytes}
use Rattle.line_forms.specs.declared.Content.{Content}
use Rattle.line_forms.specs.declared.Content.TheVariants.{NoForm}
use Rattle.line_forms.proofs.ContentLaws.{content-right, content-written}
use Rattle.line_forms.proofs.Sizes.{content-size}

-- a line that holds nothing is no form's bytes
none-held : (s : List ℕ) → content_of s ≡ NoForm → NoBytes s
none-held s e c w h = subst (λ (d : Content). Writable d) (sym (content-written s c w h) ∙ e) w

-- `long` for a line over 240 bytes, else by what the line holds
abbrev pub answer_of : {R : Type 0} → R → (Content → R) → List ℕ → R
answer_of long f s = pick (ltb 240 (length s)) long (f (content_of s))

module _ {R : Type 0} (long : R) (f : Content → R) (s : List ℕ) where
  pub answer-long : 240 < length s → answer_of long f s ≡ long
  answer-long l = rw (lt-ltb 240 (length s) l)

  answer-short : length s ≤ 240 → answer_of long f s ≡ f (content_of s)
  answer-short l = rw (le-ltb 240 (length s) l)

  pub answer-none : length s ≤ 240 → NoBytes s → answer_of long f s ≡ f NoForm
  answer-none l n =
      answer-short l ∙
      ⊎_elim (λ e. ap f e) (λ k. absurd (n (content_of s) k.0 k.1)) (content-right s)

  -- a form's bytes are no line over 240 bytes
  pub answer-held : (c : Content) → Writable c → s ≡ bytes_of c → answer_of long f s ≡ f c
  answer-held c w e =
      answer-short (omega (arith, content-size c w, ap length e)) ∙ ap f (content-written s c w e)

  pub answer-cases :
      (P : R → Type 0) → (240 < length s → P long) → (length s ≤ 240 → NoBytes s → P (f NoForm)) →
      ((c : Content) → Writable c → s ≡ bytes_of c → P (f c)) → P (answer_of long f s)
  answer-cases P a b h = elim (dec_lt 240 (length s)) [ yes l ↦ rw (answer-long l) (a l) | no l ↦ short (omega arith) ]
    where
      short : length s ≤ 240 → P (answer_of long f s)
      short l =
          rw (answer-short l)
          (⊎_elim (λ e. rw e (b l (none-held s e))) (λ k. h (content_of s) k.0 k.1) (content-right s))
