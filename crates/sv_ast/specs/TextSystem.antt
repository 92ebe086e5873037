-- The cycle system of a text as its processes see it: within a cycle a clock has no value (IEEE
-- 1364-2005, clause 9.7.2, takes of it the edge alone), so 0 stands in its place wherever a process
-- names it. In an admitted design only a `case` with nothing to choose can.
use Rattle.std.specs.Prelude.{ℕ, List, Option, map, flat_map, if◌then◌else◌}
use Rattle.sv_system.specs.System.{System, Environment, Run}
use Rattle.sv_ast.specs.Tree.{TextTree}
use Rattle.sv_ast.specs.Reach.{holds}
use Rattle.sv_ast.specs.Parts.{Path, same_path, parts, links_of}
use Rattle.sv_ast.specs.ClockPaths.{clock_paths}
use Rattle.sv_ast.specs.Meaning.{system}

-- the clocks of a text
abbrev pub text_clocks : TextTree → (asked : Option (List ℕ)) → List Path
text_clocks text asked =
    clock_paths (parts text asked) (flat_map (links_of text.modules) (parts text asked))

-- the environment with 0 for each clock
abbrev pub without_clocks : (clocks : List Path) → Environment Path → Environment Path
without_clocks clocks environment x = if holds same_path clocks x then 0 else environment x

-- the run, where it sees no clock; it leaves clocks as they are
abbrev pub unclocked : (clocks : List Path) → Run Path → Run Path
unclocked clocks run environment x =
    if holds same_path clocks x then environment x else run (without_clocks clocks environment) x

-- the system, where no process sees a clock
abbrev pub seeing_no_clock : {Point : Type 0} → (clocks : List Path) → System Path Point
    → System Path Point
seeing_no_clock clocks s = record s {
  processes = map (unclocked clocks) s.processes;
  next = λ environment. s.next (without_clocks clocks environment);
}

-- the cycle system of a text, under the module asked for or its only top
abbrev pub text_system : TextTree → (asked : Option (List ℕ)) → System Path (List ℕ)
text_system text asked = seeing_no_clock (text_clocks text asked) (system text asked)
