-- The counters before the first line.
use Rattle.std.specs.Prelude.{None}
use Rattle.work.specs.declared.Counters.{Counters}

abbrev pub no_counters : Counters
no_counters = record { names = 0; types = 0; predicates = 0; nodes = 0; fields = 0; value = None; queries = 0 }
