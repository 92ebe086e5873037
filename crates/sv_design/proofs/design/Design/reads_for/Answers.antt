use Rattle.std.proofs.Common.{◌≡◌, ◌<◌, ℕ, List, [], Vec, Global, length, map, ap, sym, ◌∙◌}
use Rattle.std.proofs.lemmas.List.{get_or-map}
use Rattle.std.proofs.Math.ListN.{length-map}
use Rattle.sv_flat.specs.declared.designs.Flat.{Flat}
use Rattle.sv_flat.specs.declared.signals.SigId.{SigId}
use Rattle.sv_flat.specs.Reads.{reads_for}
use Rattle.sv_flat.specs.Views.{design_of}
use Rattle.sv_flat.specs.Processes.{signal_numbers}
use Rattle.sv_design.specs.Numbers.{numbers}
use Rattle.sv_design.proofs.Lookups.{inside_table, found_in_table}
use Rattle.sv_design.proofs.design.Design.reads_for.Goals as goal

abbrev numbers_in : Vec SigId Global → List ℕ
numbers_in reads = numbers reads.items

inside : (reads : List (Vec SigId Global)) (flat now : Flat) (s : ℕ) → flat ≡ now
    → map numbers_in reads ≡ map (reads_for (design_of flat)) (signal_numbers (design_of flat))
    → s < length now.signals.items
    → s < length reads
inside reads flat now s same is within =
    let there = inside_table reads_for (map numbers_in reads) flat now s same is within in
    rw length-map at there

pub bounds-reads-s : goal.bounds-reads-s
bounds-reads-s c =
    inside c.as_slice-reads.result.now c.self.inside.flat c.args.self.now c.args.s.0 c.self.view_is
    (ap (map numbers_in) c.as_slice-reads.ensures.value ∙ c.self.invariant.1.reads_are) c.requires

pub returns-clause-reads : goal.returns-clause-reads
returns-clause-reads c =
    let is : map numbers_in c.as_slice-reads.result.now ≡
    map (reads_for (design_of c.self.inside.flat))
    (signal_numbers (design_of c.self.inside.flat)) =
    ap (map numbers_in) c.as_slice-reads.ensures.value ∙ c.self.invariant.1.reads_are in
    ap numbers (c.as_slice.ensures.value ∙ ap (λ (v : Vec SigId Global).
    v.items) c.index-reads-s.is)
    ∙ sym (get_or-map numbers_in c.as_slice-reads.result.now c.args.s.0 c.index-reads-s.result []
    (inside c.as_slice-reads.result.now c.self.inside.flat c.args.self.now c.args.s.0 c.self.view_is
    is c.requires))
    ∙ found_in_table reads_for (map numbers_in c.as_slice-reads.result.now) c.self.inside.flat
    c.args.self.now c.args.s.0 []
    c.self.view_is is c.requires
