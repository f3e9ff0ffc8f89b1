-- The four counts in the model's words.
use Rattle.model.specs.Sheet as model
use Rattle.parts.specs.declared.Counts.{Counts}

abbrev pub counts_of : Counts → model.Counts
counts_of c = record { letter_count = c.letters; field_count = c.fields; equation_count = c.equations; constraint_count = c.constraints }
