-- Templates that are the same.
use Rattle.std.specs.Prelude.{Bool, ◌&&◌, map}
use Rattle.model.specs.Lists.{same}
use Rattle.model.specs.Sheet.{symbol_byte}
use Rattle.book.specs.Book.{Template}

-- the same limits and symbols, in their bytes
unfoldable pub same_template : Template → Template → Bool
same_template t u = same t.limits u.limits && same (map symbol_byte t.symbols) (map symbol_byte u.symbols)
