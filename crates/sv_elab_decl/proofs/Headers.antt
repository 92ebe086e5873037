-- The walk over the ports of a header, as its loop makes it: above the limit of signals the names go
-- on, and the first refusal stays.
use Rattle.std.proofs.Common.{◌≡◌, ℕ, Option, Some, None, List, [], ◌∷◌, refl, sym, subst, ◌∙◌}
use Rattle.std.specs.Prelude.{Result, Err}
use Rattle.std.specs.Option.{option_or}
use Rattle.sv_num.specs.declared.faults.Fault.{Fault}
use Rattle.sv_num.specs.declared.faults.Fault.TheVariants.{Rule, OutOfMemory}
use Rattle.sv_num.specs.declared.faults.Refusal.{Refusal}
use Rattle.sv_ast.specs.Tree.{ItemTree, DeclarationTree, ParameterTree, parameter_item, declared}
use Rattle.sv_elab_rules.specs.Walks.{WalkStep}
use Rattle.sv_elab_rules.specs.Declarations.{Site, Declared as WalkDeclared, nothing_declared}
use Rattle.sv_elab_rules.specs.Declarations.{parameter_walk, signal_ahead, signal_walk}
use Rattle.sv_elab_rules.specs.Declarations.{declaration_walk, declarations_walk, declaration_ahead}
use Rattle.sv_width.specs.Answers.{step_of}
use Rattle.sv_elab_decl.specs.declared.sites.Declared.{Declared}
use Rattle.sv_elab_decl.specs.declared.sites.Header.{Header}
use Rattle.sv_elab_decl.specs.Sites.{declared_of, header_items, IsSoFar}
use Rattle.sv_elab_decl.specs.Steps.{Stops, Answers, Binds, BindsNone, IsHeaderEnd}
use Rattle.sv_elab_decl.specs.Steps.{StopsHeader}
use Rattle.sv_elab_decl.proofs.Courses.{Course, course_more, course_stops, course_ends, Ahead}
use Rattle.sv_elab_decl.proofs.Courses.{ahead_more, ahead_stops, Headed, headed_stops}
use Rattle.sv_elab_decl.proofs.StepLemmas.{signal_broken}

module _ (base least : ℕ) (s : Site) where
  abbrev port_ahead : DeclarationTree → WalkDeclared → Result WalkDeclared WalkStep
  port_ahead t so_far = (signal_ahead base least s so_far t).end

  -- the walk goes on, or the refusal is that of the first rule that is broken
  abbrev pub Goes : Declared → List ItemTree → Option Refusal → Type 0
  Goes d left None = Course base least s nothing_declared (header_items s.master) d left
  Goes d left (Some r) =
      (declarations_walk base least s nothing_declared (header_items s.master)).end ≡
      Err (step_of r)

  port_walk : (d : WalkDeclared) (t : DeclarationTree) →
      (declaration_walk base least s d (declared t)).end ≡ (signal_walk base least s d t).end
  unfolding declaration_walk
  port_walk d t = refl

  port_is_ahead : (d : WalkDeclared) (t : DeclarationTree) →
      (declaration_ahead base least s d (declared t)).end ≡ (signal_ahead base least s d t).end
  unfolding declaration_ahead
  port_is_ahead d t = refl

  module _ (d : Declared) (t : DeclarationTree) (left : List ItemTree) where
    pub goes_on : (e : Declared) (broken over : Option Refusal) → Goes d (declared t ∷ left) broken
        → Answers (signal_walk base least s (declared_of d) t).end e over
        → (over ≡ None → IsSoFar base s.master d → IsSoFar base s.master e)
        → Goes e left (option_or broken over)
    goes_on e (Some r) over goes answers more = goes
    goes_on e None None goes answers more =
        course_more base least s nothing_declared (header_items s.master) d e (declared t) left goes
        (port_walk (declared_of d) t ∙ answers) (more refl goes.so_far)
    goes_on e None (Some r) goes answers more =
        course_stops base least s nothing_declared (header_items s.master) d (step_of r)
        (declared t) left goes (port_walk (declared_of d) t ∙ answers)

    stops_here : (r : Refusal) (broken : Option Refusal) → Goes d (declared t ∷ left) broken
        → (signal_ahead base least s (declared_of d) t).end ≡ Err (step_of r)
        → (e : Declared) → IsHeaderEnd base least s e (option_or broken (Some r))
    stops_here r (Some b) goes h e = goes
    stops_here r None goes h e =
        course_stops base least s nothing_declared (header_items s.master) d (step_of r)
        (declared t) left goes
        (port_walk (declared_of d) t ∙ signal_broken base least s (declared_of d) t (step_of r) h)

  pub ports_more : (old new : Declared) (t : DeclarationTree) (left : List ItemTree)
      → Ahead base least s nothing_declared (header_items s.master) old.scope (declared t ∷ left)
      → Binds (port_ahead t) old.scope new.scope
      → Ahead base least s nothing_declared (header_items s.master) new.scope left
  ports_more old new t left ahead binds =
      ahead_more base least s nothing_declared (header_items s.master) old.scope new.scope
      (declared t) left ahead
      (λ so_far same. let next = binds so_far same in
      (next.0, port_is_ahead so_far t ∙ next.1, next.2))

  -- where a port breaks another rule than the limit
  pub port_stops : (h : Header) (d : Declared) (t : DeclarationTree) (left : List ItemTree)
      (f : Fault)
      → Ahead base least s nothing_declared (header_items s.master) d.scope (declared t ∷ left)
      → Goes d (declared t ∷ left) h.broken
      → BindsNone (port_ahead t) d.scope h.declared.scope f → StopsHeader base least s h f
  port_stops h d t left (Rule r) ahead goes stops = (
    ahead_stops base least s nothing_declared (header_items s.master) d.scope (step_of r)
        (declared t) left ahead (λ so_far same. port_is_ahead so_far t ∙ stops.1 so_far same)
        ∙ stops.0,
    stops_here d t left r h.broken goes (stops.1 (declared_of d) refl) h.declared,
  )
  port_stops h d t left OutOfMemory ahead goes stops = tt

  -- where a parameter breaks a rule
  pub parameter_stops : (h : Header) (d : Declared) (p : ParameterTree) (left : List ItemTree)
      (f : Fault)
      → Headed base least s nothing_declared (header_items s.master) d (parameter_item p ∷ left)
      → h.broken ≡ None
      → Stops (parameter_walk base s (declared_of d) p).end (declared_of d) h.declared f
      → StopsHeader base least s h f
  parameter_stops h d p left (Rule r) headed none stops =
      let stop = headed_stops base least s nothing_declared (header_items s.master) d h.declared
      (step_of r) p left headed stops.0 stops.1 in (
        stop.0,
        subst (λ (b : Option Refusal).
            IsHeaderEnd base least s h.declared (option_or b (Some r))) (sym none) stop.1,
      )
  parameter_stops h d p left OutOfMemory headed none stops = tt

  pub ports_end : (d : Declared) (broken : Option Refusal) → Goes d [] broken
      → IsHeaderEnd base least s d broken
  ports_end d None goes = record {
    ends = course_ends base least s nothing_declared (header_items s.master) d goes;
    so_far = goes.so_far;
  }
  ports_end d (Some r) goes = goes
