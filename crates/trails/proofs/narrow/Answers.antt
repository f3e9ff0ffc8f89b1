-- `trails::narrow` meets its contract: the first trail is renewed and walked, and then the second. Assumes nothing.
use Rattle.trails.specs.Board.{narrow_of}
use Rattle.trails.proofs.narrow.Goals as goal

pub returns-in-Err : goal.returns-in-Err
unfolding narrow_of
returns-in-Err c =
    rw (← c.renew_trail.ensures, ← c.walk_all.ensures, c.in-Err.is)

pub returns-in-Ok-walk_all : goal.returns-in-Ok-walk_all
unfolding narrow_of
returns-in-Ok-walk_all c =
    rw (← c.renew_trail.ensures, ← c.walk_all.ensures, c.in-Ok.is, ← c.renew_trail-2.ensures, ← c.walk_all-2.ensures, c.in-Ok-walk_all.is)

pub returns-in-Err-walk_all : goal.returns-in-Err-walk_all
unfolding narrow_of
returns-in-Err-walk_all c =
    rw (← c.renew_trail.ensures, ← c.walk_all.ensures, c.in-Ok.is, ← c.renew_trail-2.ensures, ← c.walk_all-2.ensures, c.in-Err-walk_all.is)
