-- What the judgement of this crate says, in the words of document 02's No. 5.
use Rattle.model.specs.Mismatch as model
use Rattle.judge.specs.declared.Judgement.{Judgement}
use Rattle.judge.specs.declared.Judgement.TheVariants.{Solution, Differs, Breaks}

abbrev pub meant : Judgement → model.Judgement
meant Solution = model.solution
meant (Differs p m) = model.differs p m.agreeing m.side m.rest
meant (Breaks r) = model.breaks r
