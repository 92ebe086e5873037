-- Private: how the code goes. The instances that one stands in, as the code holds them.
use Rattle.std.specs.Prelude.{ℕ, List, [], ◌∷◌, ◌++◌}
use Rattle.sv_elab_rules.specs.Declarations.{Site}

-- the names of the instances down to one, and the names of the modules that it stands inside of,
-- with its own
pub record InstanceNesting : Type 0 where
  pub path : List (List ℕ)
  pub around : List (List ℕ)

-- an instance of a module inside
abbrev pub entered : InstanceNesting → (name master : List ℕ) → InstanceNesting
entered nest n master = record { path = nest.path ++ n ∷ []; around = master ∷ nest.around }

-- a site there; of its module and of what it sets the walk of its items asks nothing
abbrev pub site_at : InstanceNesting → Site
site_at nest = record {
  path = nest.path;
  around = nest.around;
  master = record {
    name = [];
    place = record { line = 1; column = 1 };
    parameters = [];
    ports = [];
    items = [];
  };
  set = [];
}
