-- The walk over a list of declarations, as a loop makes it: what is declared so far, and what is
-- left.
use Rattle.std.proofs.Common.{◌≡◌, ℕ, List, [], ◌∷◌, ◌++◌, refl, sym, ap, ◌∙◌}
use Rattle.std.specs.Prelude.{Ok, Err}
use Rattle.sv_num.specs.declared.faults.Fault.{Fault}
use Rattle.sv_ast.specs.Tree.{ItemTree, ParameterTree, parameter_item}
use Rattle.sv_elab_rules.specs.Walks.{WalkStep}
use Rattle.sv_elab_rules.specs.Declarations.{Site, Declared as WalkDeclared, parameter_walk}
use Rattle.sv_elab_rules.specs.Declarations.{declaration_walk, declarations_walk, declaration_ahead}
use Rattle.sv_elab_rules.specs.Declarations.{declared_until}
use Rattle.sv_elab_rules.proofs.WalkLemmas.{end_after, end_broken}
use Rattle.sv_elab_rules.proofs.DeclarationLemmas.{declared_in_two, until_next, until_stops}
use Rattle.sv_width.specs.Answers.{IsBreach}
use Rattle.sv_width.specs.Scopes.{Known}
use Rattle.sv_elab_decl.specs.declared.sites.Declared.{Declared}
use Rattle.sv_elab_decl.specs.Sites.{bindings_in, declared_of, IsSoFar}
use Rattle.sv_elab_decl.specs.Steps.{Binds}
use Rattle.sv_elab_decl.proofs.Faults.{breach_on}

module _ (base least : ℕ) (s : Site) where
  pub item_found : (d next : WalkDeclared) (item : ItemTree) (items : List ItemTree)
      → (declaration_walk base least s d item).end ≡ Ok next
      → (declarations_walk base least s d (item ∷ items)).end ≡
      (declarations_walk base least s next items).end
  unfolding declarations_walk
  item_found d next item items h =
      end_after (declaration_walk base least s d item) (λ x.
      declarations_walk base least s x items) next h

  pub item_stops : (d : WalkDeclared) (item : ItemTree) (items : List ItemTree) (t : WalkStep)
      → (declaration_walk base least s d item).end ≡ Err t
      → (declarations_walk base least s d (item ∷ items)).end ≡ Err t
  unfolding declarations_walk
  item_stops d item items t h =
      end_broken (declaration_walk base least s d item) (λ x.
      declarations_walk base least s x items) t h

  pub none_left : (d : WalkDeclared) → (declarations_walk base least s d []).end ≡ Ok d
  unfolding declarations_walk
  none_left d = refl

  until_none : (d : WalkDeclared) → declared_until base least s d [] ≡ d
  unfolding declared_until
  until_none d = refl

  -- a parameter knows of no limit
  parameter_found : (d : WalkDeclared) (p : ParameterTree)
      → (declaration_walk base least s d (parameter_item p)).end ≡ (parameter_walk base s d p).end
  unfolding declaration_walk
  parameter_found d p = refl

  parameter_ahead : (d : WalkDeclared) (p : ParameterTree)
      → (declaration_ahead base least s d (parameter_item p)).end ≡ (parameter_walk base s d p).end
  unfolding declaration_ahead
  parameter_ahead d p = refl

  -- where a list ends whole, it was gone through, and where it ends in the middle, so does a longer
  -- one
  pub end_in_two : (xs ys : List ItemTree) (d next : WalkDeclared)
      → (declarations_walk base least s d xs).end ≡ Ok next
      → (declarations_walk base least s d (xs ++ ys)).end ≡
      (declarations_walk base least s next ys).end
  end_in_two xs ys d next h =
      declared_in_two base least s xs ys d
      ∙ end_after (declarations_walk base least s d xs) (λ x.
      declarations_walk base least s x ys) next h

  pub end_stopped : (xs ys : List ItemTree) (d : WalkDeclared) (t : WalkStep)
      → (declarations_walk base least s d xs).end ≡ Err t
      → (declarations_walk base least s d (xs ++ ys)).end ≡ Err t
  end_stopped xs ys d t h =
      declared_in_two base least s xs ys d
      ∙ end_broken (declarations_walk base least s d xs) (λ x.
      declarations_walk base least s x ys) t h

-- the walk over what is left ends as that over all
pub record Course (base least : ℕ) (s : Site) (from : WalkDeclared) (all : List ItemTree)
    (d : Declared) (left : List ItemTree) : Type 0 where
  pub walk : (declarations_walk base least s (declared_of d) left).end
      ≡ (declarations_walk base least s from all).end
  pub so_far : IsSoFar base s.master d

module _ (base least : ℕ) (s : Site) (from : WalkDeclared) (all : List ItemTree)
    (d : Declared) where
  pub course_more : (e : Declared) (item : ItemTree) (left : List ItemTree)
      → Course base least s from all d (item ∷ left)
      → (declaration_walk base least s (declared_of d) item).end ≡ Ok (declared_of e)
      → IsSoFar base s.master e → Course base least s from all e left
  course_more e item left course h so_far = record {
    walk = sym (item_found base least s (declared_of d) (declared_of e) item left h) ∙ course.walk;
    so_far = so_far;
  }

  pub course_stops : (t : WalkStep) (item : ItemTree) (left : List ItemTree)
      → Course base least s from all d (item ∷ left)
      → (declaration_walk base least s (declared_of d) item).end ≡ Err t
      → (declarations_walk base least s from all).end ≡ Err t
  course_stops t item left course h =
      sym course.walk ∙ item_stops base least s (declared_of d) item left t h

  pub course_broken : (item : ItemTree) (left : List ItemTree) (f : Fault)
      → Course base least s from all d (item ∷ left)
      → IsBreach (declaration_walk base least s (declared_of d) item).end f
      → IsBreach (declarations_walk base least s from all).end f
  course_broken item left f course h =
      breach_on f (declaration_walk base least s (declared_of d) item).end
      (declarations_walk base least s from all).end
      (λ t stop. course_stops t item left course stop) h

  pub course_ends : Course base least s from all d []
      → (declarations_walk base least s from all).end ≡ Ok (declared_of d)
  course_ends course = sym course.walk ∙ none_left base least s (declared_of d)

-- what is left comes to the same names as all, whatever signals there are
pub record Ahead (base least : ℕ) (s : Site) (from : WalkDeclared) (all : List ItemTree)
    (known : Known) (left : List ItemTree) : Type 0 where
  pub so_far : WalkDeclared
  pub names : so_far.bindings ≡ bindings_in known
  pub until : declared_until base least s so_far left ≡ declared_until base least s from all

module _ (base least : ℕ) (s : Site) (from : WalkDeclared) (all : List ItemTree)
    (known : Known) where
  pub ahead_more : (new : Known) (item : ItemTree) (left : List ItemTree)
      → Ahead base least s from all known (item ∷ left)
      → Binds (λ d. (declaration_ahead base least s d item).end) known new
      → Ahead base least s from all new left
  ahead_more new item left ahead binds =
      let next = binds ahead.so_far ahead.names in record {
        so_far = next.0;
        names = next.2;
        until = sym (until_next base least s ahead.so_far next.0 item left next.1) ∙ ahead.until;
      }

  pub ahead_stops : (t : WalkStep) (item : ItemTree) (left : List ItemTree)
      → Ahead base least s from all known (item ∷ left)
      → ((d : WalkDeclared) → d.bindings ≡ bindings_in known
      → (declaration_ahead base least s d item).end ≡ Err t)
      → (declared_until base least s from all).bindings ≡ bindings_in known
  ahead_stops t item left ahead broken =
      ap (λ (d : WalkDeclared). d.bindings)
      (sym ahead.until
      ∙ until_stops base least s ahead.so_far item left t (broken ahead.so_far ahead.names))
      ∙ ahead.names

  pub ahead_ends : Ahead base least s from all known []
      → (declared_until base least s from all).bindings ≡ bindings_in known
  ahead_ends ahead =
      ap (λ (d : WalkDeclared). d.bindings)
      (sym ahead.until ∙ until_none base least s ahead.so_far)
      ∙ ahead.names

-- as long as parameters are walked, nothing differs ahead
pub record Headed (base least : ℕ) (s : Site) (from : WalkDeclared) (all : List ItemTree)
    (d : Declared) (left : List ItemTree) : Type 0 where
  pub course : Course base least s from all d left
  pub until : declared_until base least s (declared_of d) left ≡
      declared_until base least s from all

module _ (base least : ℕ) (s : Site) (from : WalkDeclared) (all : List ItemTree)
    (d : Declared) where
  pub headed_more : (e : Declared) (p : ParameterTree) (left : List ItemTree)
      → Headed base least s from all d (parameter_item p ∷ left)
      → (parameter_walk base s (declared_of d) p).end ≡ Ok (declared_of e)
      → IsSoFar base s.master e → Headed base least s from all e left
  headed_more e p left headed h so_far = record {
    course = course_more base least s from all d e (parameter_item p) left headed.course
        (parameter_found base least s (declared_of d) p ∙ h) so_far;
    until = sym (until_next base least s (declared_of d) (declared_of e) (parameter_item p) left
        (parameter_ahead base least s (declared_of d) p ∙ h)) ∙ headed.until;
  }

  pub headed_stops : (e : Declared) (t : WalkStep) (p : ParameterTree) (left : List ItemTree)
      → Headed base least s from all d (parameter_item p ∷ left)
      → (parameter_walk base s (declared_of d) p).end ≡ Err t
      → declared_of d ≡ declared_of e
      → ((declared_until base least s from all).bindings ≡ bindings_in e.scope)
      × ((declarations_walk base least s from all).end ≡ Err t)
  headed_stops e t p left headed h same = (
    ap (λ (x : WalkDeclared). x.bindings)
        (sym headed.until
        ∙ until_stops base least s (declared_of d) (parameter_item p) left t
        (parameter_ahead base least s (declared_of d) p ∙ h)
        ∙ same),
    course_stops base least s from all d t (parameter_item p) left headed.course
        (parameter_found base least s (declared_of d) p ∙ h),
  )

  pub headed_ahead : (left : List ItemTree) → Headed base least s from all d left
      → Ahead base least s from all d.scope left
  headed_ahead left headed =
      record { so_far = declared_of d; names = refl; until = headed.until }
