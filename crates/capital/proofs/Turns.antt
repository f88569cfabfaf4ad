-- What a read gives, and what all reads together. Assumes nothing.
use mathlib.Core.Bool.{Bool, true, false, ◌&&◌, true≢false}
use mathlib.Core.List.{List, [], ◌++◌}
use mathlib.Core.Logic.{◌⊎◌, inl, inr}
use mathlib.Core.Path.{◌≡◌, refl, sym, ◌∙◌, ap}
use Prim.Native.Nat.{ℕ, ◌+◌, ◌-◌, ◌≤◌}
use native.Mathlib.Omega.{arith}
use lib.Dec.{ltb, leb}
use lib.ListN.{length, take, length-append}
use lib.Seq.{length-take-le}
use borrow.Author.Tests.{ltb-false, leb-false}
use Rattle.std.specs.Prelude.{Result, Ok, Err, is_ok}
use Rattle.line_forms.specs.declared.refusal.Refusal.{Refusal}
use Rattle.line_forms.proofs.Refusals.{number-some}
use Rattle.book_model.specs.Calls.{told}
use Rattle.driver.specs.Program.{Settled}
use Rattle.driver.specs.Reading.{Reading, from_start, with_bytes}
use Rattle.driver.proofs.Bytes.{bytes-append}
use Rattle.capital.specs.Reads.{ReadsOn, Reached, EndsReading}

-- no byte was read
pub read_none : (s : Reading) (buffer : List ℕ) → ReadsOn s s 0 buffer
unfolding with_bytes
read_none s buffer = record { count = omega arith; reads = refl }

-- the first n bytes of the buffer were
pub read_some : (s t : Reading) (n : ℕ) (buffer : List ℕ) → n ≤ length buffer → t ≡ with_bytes s (take (n - 0) buffer) → ReadsOn s t n buffer
read_some s t n buffer h e = let z : n - 0 ≡ n = omega arith in record { count = h; reads = e ∙ ap (λ (k : ℕ). with_bytes s (take k buffer)) z }

refused : (r : Result Unit Refusal) → is_ok r ≡ false → told r ≡ 0 → ⊥
refused (Ok x) y = absurd (true≢false y)
refused (Err q) y = number-some q

-- reading goes on where bytes came, no line was refused and the line being read is not too long
pub ends-settled : (s : Reading) (n held : ℕ) (r : Result Unit Refusal) → s.stage.refusal ≡ told r → length s.tail ≡ held →
    (ltb 0 n && is_ok r && leb held 240) ≡ false → EndsReading s n false false
ends-settled s n held r f l e = record { ends = λ _. inr (go (ltb 0 n) refl (is_ok r) refl (leb held 240) refl e) }
  where
    go : (a : Bool) → ltb 0 n ≡ a → (b : Bool) → is_ok r ≡ b → (c : Bool) → leb held 240 ≡ c → (a && b && c) ≡ false → (n ≡ 0) ⊎ Settled s
    go false x b y c z e = inl (omega (arith, ltb-false 0 n x))
    go true x false y c z e = inr (inl (λ k. refused r y (sym f ∙ k)))
    go true x true y false z e = inr (inr (omega (arith, leb-false held 240 z)))
    go true x true y true z e = absurd (true≢false e)

-- one read more
pub reached-on : {sheet : List ℕ} {s t : Reading} {m n : ℕ} {buffer : List ℕ} → Reached sheet s m → ReadsOn s t n buffer → Reached sheet t (m + n)
reached-on {sheet} {s} {t} {m} {n} {buffer} r e =
    let k : length (take n buffer) ≡ n = length-take-le n buffer e.count in
    record {
      input = r.input ++ take n buffer;
      size = length-append r.input (take n buffer) ∙ omega (arith, r.size);
      reads = e.reads ∙ ap (λ (x : Reading). with_bytes x (take n buffer)) r.reads ∙ sym (bytes-append (from_start sheet) r.input (take n buffer));
    }

pub reached-none : (sheet : List ℕ) (s : Reading) (n : ℕ) → s ≡ from_start sheet → n ≡ 0 → Reached sheet s n
unfolding with_bytes
reached-none sheet s n e f = record { input = []; size = omega (arith, f); reads = e }
