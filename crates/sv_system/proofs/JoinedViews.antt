-- What a level sees in two joined systems: the same signals under the two names, with the same
-- values. So no level learns more in the second than in the first.
use Rattle.std.proofs.Common.{◌≡◌, ℕ, Bool, true, false, cond, ◌&&◌, List, [], ◌∷◌, map, take, refl}
use Rattle.std.proofs.Common.{sym, ap, ap₂, subst, ◌∙◌}
use Rattle.std.specs.Prelude.{All, Contains}
use Rattle.std.proofs.lemmas.List.{length-map, take-map}
use Rattle.std.proofs.lemmas.List.Elements.{All-nil, All-cons, All-head, All-tail, All-take}
use Rattle.sv_system.specs.System.{System, Environment, Fits, IsTrace, LookAlike, Noninterferent}
use Rattle.sv_system.specs.System.{seen, view}
use Rattle.sv_system.specs.Joining.{Joined}
use Rattle.sv_system.proofs.Lists.{Contains-head, Contains-later, told, told_next, map_map}
use Rattle.sv_system.proofs.JoinedCycles.{renamed, by_name, agree_back}
use Rattle.sv_system.proofs.JoinedTraces.{trace_back}

module _ {X Y : Type 0} (name : X → Y) where
  -- what is told of a signal, told of its other name
  abbrev pub told_as : X × ℕ → Y × ℕ
  told_as pair = (name pair.0, pair.1)

  as_first : (b c : Bool) (x : X) (m n : ℕ) (ps : List (X × ℕ)) (qs : List (Y × ℕ)) → b ≡ c → m ≡ n
      → qs ≡ map told_as ps
      → cond c ((name x, n) ∷ qs) qs ≡ map told_as (cond b ((x, m) ∷ ps) ps)
  as_first true c x m n ps qs tests values rest =
      subst (λ d. cond d ((name x, n) ∷ qs) qs ≡ (name x, m) ∷ map told_as ps) tests cc
  as_first false c x m n ps qs tests values rest =
      subst (λ d. cond d ((name x, n) ∷ qs) qs ≡ map told_as ps) tests rest

  -- tests and values that agree under the two names tell the same
  told_named : (p : X → Bool) (q : Y → Bool) (g : X → ℕ) (h : Y → ℕ) (xs : List X)
      → ((x : X) → Contains xs x → p x ≡ q (name x)) → ((x : X) → Contains xs x → g x ≡ h (name x))
      → told q h (map name xs) ≡ map told_as (told p g xs)
  told_named p q g h [] tests values = refl
  told_named p q g h (x ∷ xs) tests values =
      let first = Contains-head x xs in
      let rest = told_named p q g h xs (λ y at. tests y (Contains-later x xs y at)) (λ y at.
      values y (Contains-later x xs y at)) in
      told_next q h (name x) (map name xs)
      ∙ as_first (p x) (q (name x)) x (g x) (h (name x)) (told p g xs) (told q h (map name xs))
      (tests x first) (values x first) rest
      ∙ ap (map told_as) (sym (told_next p g x xs))

-- functions that agree where something holds map alike where it holds of all
map_same : {A B : Type 0} (f g : A → B) (P : A → Type 0) → ((x : A) → P x → f x ≡ g x) →
    (xs : List A) → All P xs → map f xs ≡ map g xs
map_same f g P same [] all = refl
map_same f g P same (x ∷ xs) all =
    ap₂ (λ y ys. y ∷ ys) (same x (All-head P x xs all))
    (map_same f g P same xs (All-tail P x xs all))

-- names that lead back
map_back : {X Y : Type 0} (to : X → Y) (from : Y → X) (xs : List X) →
    ((x : X) → Contains xs x → from (to x) ≡ x) → map from (map to xs) ≡ xs
map_back to from [] back = refl
map_back to from (x ∷ xs) back =
    ap₂ (λ y ys. y ∷ ys) (back x (Contains-head x xs))
    (map_back to from xs (λ y at. back y (Contains-later x xs y at)))

-- each environment of a trace fits
trace_fits : {Signal Point : Type 0} (system : System Signal Point)
    (inputs es : List (Environment Signal)) (start : Environment Signal)
    → IsTrace system start inputs es → All (Fits system) es
trace_fits system inputs [] start trace = All-nil (Fits system)
trace_fits system [] (e ∷ es) start trace = absurd trace
trace_fits system (now ∷ more) (e ∷ es) start trace =
    All-cons (Fits system) e es trace.0.fits (trace_fits system more es (system.next e) trace.1)

module _ {Signal Point Other OtherPoint : Type 0} (first : System Signal Point)
    (second : System Other OtherPoint)
    (joined : Joined first second) where
  module _ (p : Signal → Bool) (q : Other → Bool) (f : Environment Other)
      (tests : (s : Signal) → Contains first.signals s → p s ≡ q (joined.to s)) where
    told_over : told q f second.signals ≡
        map (told_as joined.to) (told p (renamed joined.to f) first.signals)
    told_over =
        ap (told q f) joined.signals
        ∙ told_named joined.to p q (renamed joined.to f) f first.signals tests (λ s within. refl)

    told_back : told p (renamed joined.to f) first.signals ≡
        map (told_as joined.from) (told q f second.signals)
    told_back =
        let names = sym (map_back joined.to joined.from first.signals joined.from_to)
        ∙ ap (map joined.from) (sym joined.signals) in
        ap (told p (renamed joined.to f)) names
        ∙ told_named joined.from q p f (renamed joined.to f) second.signals
        (by_name first second joined (λ t. q t ≡ p (joined.from t)) (λ s within.
        sym (tests s within) ∙ ap p (sym (joined.from_to s within))))
        (by_name first second joined (λ t. f t ≡ f (joined.to (joined.from t)))
        (λ s within. ap (λ r. f (joined.to r)) (sym (joined.from_to s within))))

  module _ (point : OtherPoint) where
    flows_alike : (f : Environment Other) → Fits second f → (s : Signal) → Contains first.signals s
        → first.flows (first.label s (renamed joined.to f)) (joined.level point) ≡
        second.flows (second.label (joined.to s) f) point
    flows_alike f fits =
        joined.seen_alike point (renamed joined.to f) f (agree_back first second joined f fits)

    -- what the level sees in an environment of the second system, under the first's names
    abbrev first_view : Environment Other → List (Signal × ℕ)
    first_view f = view first (joined.level point) (renamed joined.to f)

    pub view_over : (f : Environment Other) → Fits second f →
        view second point f ≡ map (told_as joined.to) (first_view f)
    view_over f fits = told_over
        (λ s. first.flows (first.label s (renamed joined.to f)) (joined.level point)) (λ t.
        second.flows (second.label t f) point) f
        (flows_alike f fits)

    pub views_over : (fs : List (Environment Other)) → All (Fits second) fs
        → map (view second point) fs ≡
        map (map (told_as joined.to))
        (map (view first (joined.level point)) (map (renamed joined.to) fs))
    views_over fs fits =
        map_same (view second point) (λ f. map (told_as joined.to) (first_view f)) (Fits second)
        view_over fs fits
        ∙ sym (map_map (map (told_as joined.to)) first_view fs)
        ∙ ap (map (map (told_as joined.to)))
        (sym (map_map (view first (joined.level point)) (renamed joined.to) fs))

    module _ (kind : Signal → Bool) (other : Other → Bool) (kinds : (s : Signal) →
        Contains first.signals s → kind s ≡ other (joined.to s)) where
      -- what it sees of one kind
      abbrev first_seen : Environment Other → List (Signal × ℕ)
      first_seen f = seen kind first (joined.level point) (renamed joined.to f)

      seen_back : (f : Environment Other) → Fits second f →
          first_seen f ≡ map (told_as joined.from) (seen other second point f)
      seen_back f fits = told_back
          (λ s. kind s && first.flows (first.label s (renamed joined.to f)) (joined.level point))
          (λ t. other t && second.flows (second.label t f) point) f
          (λ s within. ap₂ (λ a b. a && b) (kinds s within) (flows_alike f fits s within))

      all_seen_back : (fs : List (Environment Other)) → All (Fits second) fs
          → map (seen kind first (joined.level point)) (map (renamed joined.to) fs)
          ≡ map (map (told_as joined.from)) (map (seen other second point) fs)
      all_seen_back fs fits =
          map_map (seen kind first (joined.level point)) (renamed joined.to) fs
          ∙ map_same first_seen (λ f. map (told_as joined.from) (seen other second point f))
          (Fits second) seen_back fs fits
          ∙ sym (map_map (map (told_as joined.from)) (seen other second point) fs)

      -- what is seen alike in the second system is seen alike in the first
      alike_back : (fs gs : List (Environment Other)) → All (Fits second) fs → All (Fits second) gs
          → map (seen other second point) fs ≡ map (seen other second point) gs
          → map (seen kind first (joined.level point)) (map (renamed joined.to) fs)
          ≡ map (seen kind first (joined.level point)) (map (renamed joined.to) gs)
      alike_back fs gs fs_fit gs_fit same =
          all_seen_back fs fs_fit ∙ ap (map (map (told_as joined.from))) same
          ∙ sym (all_seen_back gs gs_fit)

    look_back : (fs gs : List (Environment Other)) → All (Fits second) fs → All (Fits second) gs
        → LookAlike second point fs gs
        → LookAlike first (joined.level point) (map (renamed joined.to) fs)
        (map (renamed joined.to) gs)
    look_back fs gs fs_fit gs_fit look =
        let registers = alike_back first.is_register second.is_register joined.registers (take 1 fs)
        (take 1 gs)
        (All-take (Fits second) 1 fs fs_fit) (All-take (Fits second) 1 gs gs_fit) look.registers in
        let before = λ (es : List (Environment Other)).
        ap (map (seen first.is_register first (joined.level point)))
        (take-map (renamed joined.to) 1 es) in
        record {
          lengths =
              length-map fs (renamed joined.to) ∙ look.lengths
              ∙ sym (length-map gs (renamed joined.to));
          registers = before fs ∙ registers ∙ sym (before gs);
          inputs =
              alike_back first.is_input second.is_input joined.inputs fs gs fs_fit gs_fit
              look.inputs;
        }

  pub joined_noninterferent : Noninterferent first → Noninterferent second
  joined_noninterferent safe point start1 start2 inputs1 inputs2 fs gs trace1 trace2 look =
      let fs_fit = trace_fits second inputs1 fs start1 trace1 in
      let gs_fit = trace_fits second inputs2 gs start2 trace2 in
      let same = safe (joined.level point) (renamed joined.to start1) (renamed joined.to start2)
      (map (renamed joined.to) inputs1) (map (renamed joined.to) inputs2)
      (map (renamed joined.to) fs) (map (renamed joined.to) gs)
      (trace_back first second joined inputs1 fs (renamed joined.to start1) start1 (λ s is.
      refl) trace1)
      (trace_back first second joined inputs2 gs (renamed joined.to start2) start2 (λ s is.
      refl) trace2)
      (look_back point fs gs fs_fit gs_fit look) in
      views_over point fs fs_fit ∙ ap (map (map (told_as joined.to))) same
      ∙ sym (views_over point gs gs_fit)
