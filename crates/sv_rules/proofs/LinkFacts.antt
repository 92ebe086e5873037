-- Links of ports by whole names.
use Rattle.std.proofs.Common.{◌≡◌, ℕ, ◌<◌, Bool, true, false, cond, ◌&&◌, ◌||◌, nat_le, List, []}
use Rattle.std.proofs.Common.{◌∷◌, ◌==◌, length, Option, Some, None, refl, ap₂, subst, ltb-true}
use Rattle.std.specs.Prelude.{IsTrue, option_map}
use Rattle.std.specs.List.{cons_option, filter_map}
use Rattle.sv_flat.specs.Clocks.{whole_name, whole_link, is_port_in, is_port_out, link_in, link_out}
use Rattle.sv_flat.specs.Clocks.{lists_pair}
use Rattle.sv_flat.specs.Values.{signal_width}
use Rattle.sv_flat.specs.Design.{SignalForm, TypedTree, typed, read, FlatStatement, assign}
use Rattle.sv_flat.specs.Design.{ProcessForm, FlatDesign}
use Rattle.sv_flat.specs.Soundness.{is_one_to, is_signal, piece_fits, well_formed, statement_sound}
use Rattle.sv_flat.specs.Soundness.{kind_sound, process_sound}
use Rattle.sv_flat.proofs.Depths.{first_of, second_of}
use Rattle.sv_rules.specs.declared.links.Edges.{Edges}
use Rattle.sv_rules.specs.declared.links.Edges.TheVariants.{ToNames, ToInputs, ToNets}
use Rattle.sv_rules.specs.Links.{turned, is_pair, IsBelow, edge_of}
use Rattle.sv_rules.proofs.Sound.{piece_is_signal}

-- one link before others
pub pair_first : (o : Option (ℕ × ℕ)) (pairs : List (ℕ × ℕ)) (a b : ℕ)
    → lists_pair (cons_option o pairs) a b ≡ (is_pair o a b || lists_pair pairs a b)
pair_first None pairs a b = refl
pair_first (Some pair) pairs a b = refl

-- both signals of a link are signals
module _ (signals : List SignalForm) where
  same_name : (s t : ℕ) → Some s ≡ Some t → s ≡ t
  same_name s t e = cc

  no_name : (t : ℕ) → None ≡ Some t → ⊥
  no_name t e = cc

  name_below : (e : TypedTree) (t : ℕ) → whole_name e ≡ Some t → IsTrue (well_formed signals e) →
      t < length signals
  name_below (typed w signed (read s place)) t is h =
      subst (λ z. z < length signals) (same_name s t is)
      (ltb-true s (length signals)
      (first_of (is_signal signals s) (nat_le (signal_width signals s) w)
      (second_of (is_one_to 64 w) (is_signal signals s && nat_le (signal_width signals s) w) h)))
  name_below (typed w signed _) t is h = absurd (no_name t is)

  pair_below : (o : Option ℕ) (s : ℕ) → s < length signals
      → ((t : ℕ) → o ≡ Some t → t < length signals)
      → IsBelow (length signals) (option_map (λ t. (s, t)) o)
  pair_below None s below names = tt
  pair_below (Some t) s below names = (below, names t refl)

  link_below : (body : FlatStatement) → IsTrue (statement_sound signals body) →
      IsBelow (length signals) (whole_link body)
  link_below (assign (piece ∷ []) place blocking right) h =
      let fits = second_of (well_formed signals right) (piece_fits signals right piece && true) h in
      pair_below (whole_name right) piece.signal
      (piece_is_signal signals right piece (first_of (piece_fits signals right piece) true fits))
      (λ t is. name_below right t is
      (first_of (well_formed signals right) (piece_fits signals right piece && true) h))
  link_below _ h = tt

  if_below : (b : Bool) (o : Option (ℕ × ℕ)) → IsBelow (length signals) o →
      IsBelow (length signals) (cond b o None)
  if_below true o h = h
  if_below false o h = tt

module _ (design : FlatDesign) (p : ProcessForm) (is_sound : IsTrue (process_sound design p)) where
  pub link_in_below : IsBelow (length design.signals) (link_in p)
  link_in_below = if_below design.signals (is_port_in p.kind) (whole_link p.body)
      (link_below design.signals p.body
      (second_of (kind_sound design p.kind p.body) (statement_sound design.signals p.body)
      is_sound))

  pub link_out_below : IsBelow (length design.signals) (link_out p)
  link_out_below = if_below design.signals (is_port_out p.kind) (whole_link p.body)
      (link_below design.signals p.body
      (second_of (kind_sound design p.kind p.body) (statement_sound design.signals p.body)
      is_sound))

-- ---- the other way

module _ (f : ProcessForm → Option (ℕ × ℕ)) (a b : ℕ) where
  and_turned : (x y : Bool) → (x && y) ≡ (y && x)
  and_turned true true = refl
  and_turned true false = refl
  and_turned false true = refl
  and_turned false false = refl

  first_turned : (o : Option (ℕ × ℕ)) (pairs others : List (ℕ × ℕ))
      → lists_pair pairs a b ≡ lists_pair others b a
      → lists_pair (cons_option (option_map turned o) pairs) a b
      ≡ lists_pair (cons_option o others) b a
  first_turned None pairs others same = same
  first_turned (Some pair) pairs others same =
      ap₂ (λ x y. x || y) (and_turned (pair.1 == a) (pair.0 == b)) same

  pub pairs_turned : (ps : List ProcessForm)
      → lists_pair (filter_map (λ p. option_map turned (f p)) ps) a b
      ≡ lists_pair (filter_map f ps) b a
  pairs_turned [] = refl
  pairs_turned (p ∷ ps) = first_turned (f p) (filter_map (λ q. option_map turned (f q)) ps)
      (filter_map f ps) (pairs_turned ps)

turned_below : (n : ℕ) (o : Option (ℕ × ℕ)) → IsBelow n o → IsBelow n (option_map turned o)
turned_below n None below = tt
turned_below n (Some pair) below = (below.1, below.0)

pub edge_below : (edges : Edges) (design : FlatDesign) (p : ProcessForm)
    → IsTrue (process_sound design p) → IsBelow (length design.signals) (edge_of edges p)
edge_below ToNames design p is_sound = link_in_below design p is_sound
edge_below ToInputs design p is_sound =
    turned_below (length design.signals) (link_in p) (link_in_below design p is_sound)
edge_below ToNets design p is_sound =
    turned_below (length design.signals) (link_out p) (link_out_below design p is_sound)
