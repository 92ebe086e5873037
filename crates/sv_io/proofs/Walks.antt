-- What the walks of `src/history.rt` share: each function makes a struct with no field but one
-- that only clauses read, `starts` at a first value of that field, and `grows` at one that two
-- references lead to. Assumes `Logic`.
use Rattle.std.proofs.Common.{◌≡◌, List, [], ◌∷◌, refl, sym}
use Rattle.std.proofs.raw_atomic.Walks.{proved}
use seplogic.Ra.Ura.{Ura}
use mir.Syntax.{Fn, Callee, Sym, Ty, Local, Body, named, imm, ty_named, ty_ref, ty_struct, tnil}
use mir.Syntax.{local, value_local, place, aggregate, seq, assign, return}
use mir.Val.{Val, vstruct, vnil}
use base.Fml.{Fml, ftrue, fsep}
use base.Logic.{emp}
use prog.Model.{Model}
use prog.Wp.{Closed}
use contract.Monad.{fact}
use contract.Running.{Running, MachineTables, tables}
use types.Logic.{Logic}
use types.Kit.{Goal, Step, step, Item, ‵, raw, ◌⊛◌, ◌$◌, ◌∵◌, !, qed, move, keep, split, fjoin}
use types.Kit.{fpack, feq_i, rewrite, suffices, done}
use types.Part.{agg}
use types.Run.{enter, returns, no_more}
use types.ByLocal.{alloc_all, pass_all, free_all, look_at, sets}
use denote.Exit.{yes}
use denote.RattleType.{RattleType, Valss, owns}
use denote.Ref.{NamedLft, shr_vals, shr_Tells}
use denote.Signature.{Slot, named_lft, plain, shr_ref_to, types_at}
use denote.Steps.{nothing}
use denote.Struct.Struct.{Struct, within}
use denote.Triple.Clauses.{Clauses, Ended, closing}
use denote.Triple.Entry.{alive}
use denote.Triple.Spec.{Meets}
use denote.Triple.Walked.{says, Stays, stay_dropped, walk_of, ends_at, Goes-dropped}

abbrev pub none : Val
none = vstruct vnil

abbrev pub fieldless : RattleType
fieldless = Struct (record { name = []; args = []; types = []; fields = [] })

none_made : {M : Type 1} {𝓤 : Ura M} {𝓛 : Logic 𝓤} {K : Type 0} {Γ : List (Item 𝓤)}
    {G : Goal 𝓤 𝓛.H} → K → Step K 𝓛 (‵ (fieldless.own_val tt (none ∷ [])) ∷ Γ) G Γ G
none_made t = step (λ s.
    nothing t $ feq_i t (List Val) (none ∷ []) (none ∷ []) refl $ fjoin t $
    fpack t (Valss []) (within (record { name = []; args = []; types = []; fields = [] }) tt
    (none ∷ [])) tt $ s)

-- the code: the struct is made of nothing
abbrev pub body : Body
body = seq (assign (place 0 []) (aggregate [])) return

abbrev pub made_local : Sym → Local
made_local name = local (ty_struct name tnil) value_local

abbrev pub starting : Sym → Fn
starting name = record {
  lifetimes = 0;
  outlives = [];
  ty_params = [];
  givens = 0;
  params = 0;
  locals = made_local name ∷ [];
  body = body;
}

abbrev pub growing : Sym → Ty → Fn
growing name next = record {
  lifetimes = 3;
  outlives = (2, 1) ∷ [];
  ty_params = [];
  givens = 0;
  params = 2;
  locals = made_local name ∷ local (ty_ref (named 0) imm (ty_named (name, []) tnil)) value_local ∷
      local (ty_ref (named 1) imm next) value_local ∷ [];
  body = body;
}

-- of such a struct: its name, its field, the struct at a value of the field, that it owns nothing
pub record History (R : RattleType) (X : Type 0) : Type 1 where
  pub name : Sym
  pub field : R.Denot → X
  pub made : X → R.Denot
  pub as_made : (x : X) → field (made x) ≡ x
  pub bare : (x : X) → R.own_val (made x) (none ∷ []) ≡
      fsep (fieldless.own_val tt (none ∷ [])) ftrue

module _ {M : Type 1} (𝓤 : Ura M) (𝓛 : Logic 𝓤) (𝓜 : Model 𝓤 𝓛.H) (𝓡 : Running 𝓤 𝓛.H 𝓜)
    {R : RattleType} {X : Type 0} (h : History R X) (k : Callee) where
  abbrev 𝓣 : MachineTables 𝓤 𝓛.H 𝓜
  𝓣 = tables 𝓤 𝓛.H 𝓜 𝓡 𝓡.env

  module _ (first : X) where
    abbrev start_ended : Ended
    start_ended = record {
      signature = record {
        lifetimes = 0;
        outlives = [];
        params = [];
        result = plain (λ κs. R);
      };
      kept = tt;
    }

    abbrev start_clauses : Clauses 𝓤 start_ended
    start_clauses = λ κs a. record {
      ghost = Unit {0};
      requires = λ g. emp 𝓤;
      ensures = λ g r e. fact 𝓤 (h.field r ≡ first);
    }

    pub starts : Closed 𝓤 𝓛.H 𝓣.C 𝓣.Λ k (starting h.name)
        → Meets 𝓛 start_ended.signature (𝓣.C k) (closing 𝓛 start_ended start_clauses)
    starts closed =
        proved 𝓛 start_ended tt start_clauses 𝓜 𝓡 tt k (starting h.name) closed
        (λ κs. tt) (λ κs. tt) (λ κs qs bounds a g are.
        let y : (walk_of 𝓛 start_ended tt start_clauses).Ghost = ((κs, qs, bounds, a, tt), tt) in
        qed 𝓛 ((raw (alive 𝓛 start_ended.signature κs qs) ⊛ ‵ (owns [] a tt)) ∷ raw (emp 𝓤) ∷ [])
        ∵ keep ! (0 ∷ []) $ split ! $ keep ! (0 ∷ []) $
        enter ! _ _ _ _ _ $ alloc_all ! (λ l. pass_all ! refl tt $
        sets ! (agg ! (no_more !)) refl (tt, tt) $
        nothing ! $ none_made ! $ fjoin ! $
        rewrite ! 0 (λ (P : Fml). ‵ P) (sym (h.bare first)) refl $
        returns ! (look_at ! 0 refl) $ free_all ! refl $
        suffices ! _ (ends_at 𝓛 start_ended tt start_clauses y none (h.made first) tt tt) $
        says ! (h.as_made first) $ nothing ! $ move ! (2 ∷ 0 ∷ 1 ∷ []) $ done !))

  module _ (N : NamedLft → RattleType) (grown : (a : NamedLft) → R.Denot → (N a).Denot → X) where
    -- the type of what comes next, as the code writes it
    abbrev next : Ty
    next = (N (record { mir = named 2; lft = [] })).written.ty

    abbrev old_slot : Slot 3
    old_slot = shr_ref_to (0 ∷ []) tt (plain (λ κs. R))

    abbrev next_slot : Slot 3
    next_slot = shr_ref_to (1 ∷ []) tt (plain (λ κs. N (named_lft 3 2 tt κs)))

    abbrev grow_ended : Ended
    grow_ended = record {
      signature = record {
        lifetimes = 3;
        outlives = record { long = 2; long_ok = tt; short = named 1; short_ok = tt } ∷ [];
        params = old_slot ∷ next_slot ∷ [];
        result = plain (λ κs. R);
      };
      kept = (yes, (yes, tt));
    }

    abbrev grow_clauses : Clauses 𝓤 grow_ended
    grow_clauses = λ κs a. record {
      ghost = Unit {0};
      requires = λ g. emp 𝓤;
      ensures = λ g r e. fact 𝓤 (h.field r ≡ grown (named_lft 3 2 tt κs) a.0.now a.1.0.now);
    }

    abbrev stayed : Stays grow_ended.signature.params grow_ended.kept
    stayed = (stay_dropped old_slot yes, (stay_dropped next_slot yes, tt))

    pub grows : Closed 𝓤 𝓛.H 𝓣.C 𝓣.Λ k (growing h.name next)
        → Meets 𝓛 grow_ended.signature (𝓣.C k) (closing 𝓛 grow_ended grow_clauses)
    grows closed =
        proved 𝓛 grow_ended stayed grow_clauses 𝓜 𝓡 (
          Goes-dropped 𝓛 3 old_slot yes (λ κs x f. refl),
          (Goes-dropped 𝓛 3 next_slot yes (λ κs x f. refl), tt),
        )
        k (growing h.name next) closed
        (λ κs. (shr_vals, (shr_vals, tt)))
        (λ κs. (
          shr_Tells (named 0) κs.0 R,
          (shr_Tells (named 1) κs.1.0 (N (named_lft 3 2 tt κs)), tt),
        ))
        (λ κs qs bounds a g are.
        let vss : Valss (types_at grow_ended.signature.params κs) =
        (shr_vals a.0, (shr_vals a.1.0, tt)) in
        let x : X = grown (named_lft 3 2 tt κs) a.0.now a.1.0.now in
        let y : (walk_of 𝓛 grow_ended stayed grow_clauses).Ghost =
        ((κs, qs, bounds, a, vss), tt) in
        qed 𝓛 ((raw (alive 𝓛 grow_ended.signature κs qs) ⊛
        ‵ (owns (types_at grow_ended.signature.params κs) a vss)) ∷ raw (emp 𝓤) ∷ []) ∵
        keep ! (0 ∷ []) $ split ! $ keep ! (0 ∷ []) $
        enter ! _ _ _ _ _ $ alloc_all ! (λ l. pass_all ! refl ((tt, tt), ((tt, tt), tt)) $
        sets ! (agg ! (no_more !)) refl (tt, tt) $
        nothing ! $ none_made ! $ fjoin ! $
        rewrite ! 0 (λ (P : Fml). ‵ P) (sym (h.bare x)) refl $
        returns ! (look_at ! 0 refl) $ free_all ! refl $
        suffices ! _ (ends_at 𝓛 grow_ended stayed grow_clauses y none (h.made x) (tt, (tt, tt))
        (tt, (tt, tt))) $ says ! (h.as_made x) $
        nothing ! $ nothing ! $ fjoin ! $ nothing ! $ fjoin ! $ move ! (2 ∷ 0 ∷ 1 ∷ []) $ done !))
