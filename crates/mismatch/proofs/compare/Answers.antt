-- `mismatch::compare` meets its contract: the letters that agree, and by them the side and the length of the rest. Assumes nothing.
use mathlib.Core.Path.{ap, ◌∙◌}
use lib.Dec.{ltb}
use lib.ListN.{length}
use Rattle.model.specs.Lists.{pick}
use Rattle.mismatch.proofs.compare.Goals as goal

pub returns : goal.returns
returns c s =
    let at-agreeing = c.agreeing-agreeing in
    let left = c.args.left.now in
    record {
      agree = at-agreeing.ensures.2 s;
      on_side = c.rest_side-side.ensures ∙ ap (λ n. pick (ltb n (length left)) 0 1) (at-agreeing.ensures.2 s);
      left_over = ap length (c.rest-rest.ensures s);
    }
