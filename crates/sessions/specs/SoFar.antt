-- How far a bundle is read.
use Rattle.sessions.specs.declared.reading.Progress.{Progress}
use Rattle.sessions.specs.Parts.{sections}
use Rattle.sessions.specs.Bundles.{SoFar}

abbrev pub so_far_of : Progress → SoFar
so_far_of progress = record { session = progress.session; parts = sections progress.parts.items }
