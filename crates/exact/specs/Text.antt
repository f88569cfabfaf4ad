-- The bytes of a text, so that definitions can show forms and lines as the papers print them.
use Rattle.std.specs.Prelude.{ℕ, List, [], ◌∷◌}
use Prim.Native.Char.{code}
use Prim.Native.String.{String, [] as end, ◌∷◌ as ◌then◌}

abbrev pub text : String → List ℕ
text end = []
text (◌then◌ c s) = code c ∷ text s
