-- The answer lies in its slice.
use native.Mathlib.Omega.{arith}
use Rattle.load_counts.proofs.Counts.count_seed.Goals as goal

pub slice_bounds-count_lines-end : goal.slice_bounds-count_lines-end
slice_bounds-count_lines-end c = omega (arith, (c.check_file.ensures.is.ends _ c.in-Ok.is).0)
