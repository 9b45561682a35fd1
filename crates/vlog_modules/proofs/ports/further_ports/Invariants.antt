use Rattle.std.proofs.Common.{◌≡◌, ◌-◌, length}
use Rattle.vlog_modules.specs.Reading.{more_ports}
use Rattle.vlog_modules.proofs.ports.further_ports.Given as goal

abbrev pub invariant-loop-turn : goal.invariant-loop-turn
invariant-loop-turn l = more_ports (length l.fn.cursor) l.fn.found l.fn.cursor ≡ more_ports (l._turn-end - l._turn) l.found l.cursor
