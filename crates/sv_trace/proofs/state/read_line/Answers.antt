use Rattle.std.proofs.Common.{rules, ◌≡◌, true, false, map}
use Rattle.std.specs.Str.{bytes_eq}
use Rattle.sv_trace.specs.Reading.{said_of}
use Rattle.std.specs.Str.Parse.{digits_value}
use Rattle.sv_trace.specs.Stimulus.{words}
use Rattle.sv_trace.proofs.SaidFacts.{cycle_read, header_read, start_read}
use Rattle.sv_trace.proofs.SaidFacts.{keeps_all, cycle_keeps, start_keeps}
use Rattle.sv_trace.proofs.state.read_line.Goals as goal

pub returns-then-state-clause-read : goal.returns-then-state-clause-read
returns-then-state-clause-read c =
    λ right taken read. cycle_read c.args.form.now right taken c.args.line.now
    (said_of c.args.state.now) (said_of c.push_cycle.new.state) c.push_cycle.result read
    c.if-state.true c.requires.short c.push_cycle.ensures.right c.push_cycle.ensures.pushed
    c.push_cycle.ensures.wrong c.push_cycle.ensures.same

pub returns-then-eq-clause-read : goal.returns-then-eq-clause-read
returns-then-eq-clause-read c =
    let is : bytes_eq c.args.line.now c.args.form.now.header ≡ true = search rules in
    λ right taken read. header_read c.args.form.now right taken c.args.line.now
    (said_of c.args.state.now) read c.if-state.false c.requires.short is

pub returns-clause-read : goal.returns-clause-read
returns-clause-read c =
    let is : bytes_eq c.args.line.now c.args.form.now.header ≡ false = search rules in
    λ right taken read. start_read c.args.form.now right taken c.args.line.now
    (said_of c.args.state.now) (said_of c.put_start.new.state) c.put_start.result read
    c.if-state.false c.requires.short is c.requires.said.given c.put_start.ensures.right
    c.put_start.ensures.put c.put_start.ensures.wrong c.put_start.ensures.same

pub returns-then-state-clause-cycles : goal.returns-then-state-clause-cycles
returns-then-state-clause-cycles c =
    cycle_keeps c.push_cycle.result (said_of c.args.state.now) (said_of c.push_cycle.new.state)
    (map (digits_value 16) (words c.args.line.now)) _ c.push_cycle.ensures.pushed
    c.push_cycle.ensures.same

pub returns-then-eq-clause-cycles : goal.returns-then-eq-clause-cycles
returns-then-eq-clause-cycles c = keeps_all (said_of c.args.state.now)

pub returns-clause-cycles : goal.returns-clause-cycles
returns-clause-cycles c =
    start_keeps c.args.form.now.registers c.args.line.now c.put_start.result
    (said_of c.args.state.now) (said_of c.put_start.new.state) c.put_start.ensures.put
    c.put_start.ensures.same
