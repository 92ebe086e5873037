-- How calls that declare answer.
use Rattle.std.specs.Prelude.{◌≡◌, ℕ, Result, Ok, Err, Option, Some}
use Rattle.std.specs.Prelude.{None}
use Rattle.std.specs.Option.{option_or}
use Rattle.sv_num.specs.declared.faults.Fault.{Fault}
use Rattle.sv_num.specs.declared.faults.Fault.TheVariants.{Rule, OutOfMemory}
use Rattle.sv_num.specs.declared.faults.Refusal.{Refusal}
use Rattle.sv_elab_rules.specs.Walks.{WalkStep}
use Rattle.sv_elab_rules.specs.Declarations as walk
use Rattle.sv_elab_rules.specs.Declarations.{declarations_walk, declared_until, nothing_declared}
use Rattle.sv_width.specs.Answers.{step_of}
use Rattle.sv_width.specs.Scopes.{Known}
use Rattle.sv_elab_decl.specs.declared.sites.Declared.{Declared}
use Rattle.sv_elab_decl.specs.declared.sites.Header.{Header}
use Rattle.sv_elab_decl.specs.Sites.{bindings_in, declared_of, header_items, IsSoFar}

-- the fault is want of memory, or refuses by the step that the walk breaks; what was declared
-- before that step stays
abbrev pub Stops : (end : Result walk.Declared WalkStep) → (until : walk.Declared) → Declared →
    Fault → Type 0
Stops end until d (Rule r) = (end ≡ Err (step_of r)) × (until ≡ declared_of d)
Stops end until d OutOfMemory = Unit {0}

-- all is declared, or the refusal is that of the step that the walk breaks
abbrev pub Answers : (end : Result walk.Declared WalkStep) → Declared → Option Refusal → Type 0
Answers end d None = end ≡ Ok (declared_of d)
Answers end d (Some r) = end ≡ Err (step_of r)

-- from the names of one scope a declaration comes to those of another one, whatever signals there
-- are
abbrev pub Binds : (ends : walk.Declared → Result walk.Declared WalkStep) → (old new : Known)
    → Type 0
Binds ends old new = (so_far : walk.Declared) → so_far.bindings ≡ bindings_in old
    → (next : walk.Declared) × (ends so_far ≡ Ok next) × (next.bindings ≡ bindings_in new)

-- the fault is want of memory, or refuses by the step that is broken from the names of a scope,
-- which stay
abbrev pub BindsNone : (ends : walk.Declared → Result walk.Declared WalkStep) → (old new : Known)
    → Fault → Type 0
BindsNone ends old new (Rule r) = (bindings_in old ≡ bindings_in new)
    × ((so_far : walk.Declared) → so_far.bindings ≡ bindings_in old
    → ends so_far ≡ Err (step_of r))
BindsNone ends old new OutOfMemory = Unit {0}

-- all declarations of the header are made
pub record AfterHeader (base least : ℕ) (s : walk.Site) (d : Declared) : Type 0 where
  pub ends : (declarations_walk base least s nothing_declared (header_items s.master)).end ≡
      Ok (declared_of d)
  pub so_far : IsSoFar base s.master d

-- all declarations of the header are made, or the refusal is that of the first that breaks a rule
abbrev pub IsHeaderEnd : (base least : ℕ) → walk.Site → Declared → Option Refusal → Type 0
IsHeaderEnd base least s d None = AfterHeader base least s d
IsHeaderEnd base least s d (Some r) =
    (declarations_walk base least s nothing_declared (header_items s.master)).end ≡ Err (step_of r)

-- the scope has the names that the header declares up to the first that breaks another rule than
-- the limit of signals
abbrev pub HasHeader : (base least : ℕ) → walk.Site → Known → Type 0
HasHeader base least s known =
    (declared_until base least s nothing_declared (header_items s.master)).bindings
    ≡ bindings_in known

-- the fault is want of memory, or refuses by the step that the header breaks, where no refusal came
-- before
abbrev pub StopsHeader : (base least : ℕ) → walk.Site → Header → Fault → Type 0
StopsHeader base least s h (Rule r) = HasHeader base least s h.declared.scope
    × IsHeaderEnd base least s h.declared (option_or h.broken (Some r))
StopsHeader base least s h OutOfMemory = Unit {0}
