-- The sentences of `Sentences.Ticking` and `Sentences.Course`, proved. Assumes nothing.
use Rattle.promises.specs.Sentences.Course.{Course}
use Rattle.promises.specs.Sentences.Ticking.{Ticking}
use Rattle.promises.specs.Sentences.Mission.Course.{starts, told}
use Rattle.promises.specs.Ranges.Laws.{fit_sound}
use Rattle.promises.specs.Sentences.Mission.Last.{reads_last}
use Rattle.promises.specs.Sentences.Mission.Ticks.{ticks}

pub ticking : Ticking
ticking = record { ticks = ticks; last = λ fit es. reads_last (fit_sound fit) es }

pub course : Course
course = record { starts = starts; told = told }
