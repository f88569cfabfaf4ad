use Prim.Native.Nat.{ℕ}

-- The order at which the table's rule is tested: the smallest that decides every entry.
abbrev pub test_order : ℕ
test_order = 46
