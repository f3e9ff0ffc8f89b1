-- The bytes of a question in two parts, made of the bytes of two templates.
use Rattle.std.specs.Prelude.{List, [], ◌∷◌, ◌++◌, map, ℕ, ◌+◌, length}
use Rattle.model.specs.Sheet.{symbol_of, symbol_byte, mark, bytes_of}
use Rattle.book.specs.Pairs.{numbered_after}

-- a symbol's byte, its field numbered after n others
unfoldable pub numbered : ℕ → ℕ → ℕ
numbered n x = symbol_byte (numbered_after n (symbol_of x))

-- mark, version and counts (one equation, no constraint), letters and limits
unfoldable pub head_bytes : List ℕ → List ℕ → List ℕ → List ℕ
head_bytes letters left right =
    (mark ++ bytes_of 1) ++ ((length letters ∷ (length left + length right) ∷ 1 ∷ 0 ∷ []) ++ (letters ++ (left ++ right)))

-- the counts and the symbols of both sides
unfoldable pub sides_bytes : ℕ → List ℕ → List ℕ → List ℕ
sides_bytes n left right = (length left ∷ length right ∷ []) ++ (left ++ map (numbered n) right)
