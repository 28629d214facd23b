-- `layouts::parts::command_from` meets its contract. Assumes nothing.
use Rattle.layouts.specs.Parts.{Maker, makers, unnumbered, command_from}
use Rattle.laws.proofs.Keys.{passed_over}
use mathlib.Core.List.{[]}
use mathlib.Core.Path.{sym}
use borrow.Author.Rules.{rules}
use Rattle.layouts.proofs.parts.command_from.Goals as goal

pub returns-in-1 : goal.returns-in-1
unfolding command_from
returns-in-1 c = rw c.in-1.is

pub returns-in-2 : goal.returns-in-2
unfolding command_from
returns-in-2 c = rw c.in-2.is

pub returns-in-3 : goal.returns-in-3
unfolding command_from
returns-in-3 c = rw c.in-3.is

pub returns-in-4 : goal.returns-in-4
unfolding command_from
returns-in-4 c = rw c.in-4.is

pub returns-in-5 : goal.returns-in-5
unfolding command_from
returns-in-5 c = rw c.in-5.is

pub returns-in-6 : goal.returns-in-6
unfolding command_from
returns-in-6 c = rw c.in-6.is

pub returns-in-7 : goal.returns-in-7
unfolding command_from
returns-in-7 c = rw c.in-7.is

pub returns-in-8 : goal.returns-in-8
unfolding command_from
returns-in-8 c = rw c.in-8.is

pub returns-in-9 : goal.returns-in-9
unfolding command_from
returns-in-9 c = rw c.in-9.is

pub returns-in-10 : goal.returns-in-10
unfolding command_from
returns-in-10 c = rw c.in-10.is

pub returns-in-11 : goal.returns-in-11
unfolding command_from
returns-in-11 c = rw c.in-11.is

pub returns-in-12 : goal.returns-in-12
unfolding command_from
returns-in-12 c = rw c.in-12.is

pub returns-in-13 : goal.returns-in-13
unfolding command_from
returns-in-13 c = rw c.in-13.is

pub returns-in-14 : goal.returns-in-14
unfolding command_from
returns-in-14 c = rw c.in-14.is

pub returns-in-15 : goal.returns-in-15
unfolding command_from
returns-in-15 c = rw c.in-15.is

pub returns-in-16 : goal.returns-in-16
unfolding command_from
returns-in-16 c = rw c.in-16.is

pub returns-in-17 : goal.returns-in-17
unfolding command_from
returns-in-17 c = rw c.in-17.is

pub returns-in-18 : goal.returns-in-18
unfolding command_from
returns-in-18 c = rw c.in-18.is

pub returns-in-19 : goal.returns-in-19
unfolding command_from
returns-in-19 c = rw c.in-19.is

pub returns-in-20 : goal.returns-in-20
unfolding command_from
returns-in-20 c = rw (c.glow_from-g.ensures, c.in-20.is)

pub returns-in-21 : goal.returns-in-21
unfolding command_from
returns-in-21 c = rw c.in-21.is

pub returns-in-22 : goal.returns-in-22
unfolding command_from
returns-in-22 c = rw c.in-22.is

pub returns-in-23 : goal.returns-in-23
unfolding command_from
returns-in-23 c = rw (c.time_from-t.ensures, c.in-23.is)

pub returns-in-24 : goal.returns-in-24
unfolding command_from
returns-in-24 c = rw (c.time_from-t.ensures, c.in-24.is)

pub returns-in-25 : goal.returns-in-25
unfolding command_from
returns-in-25 c = rw c.in-25.is

pub returns-in_default : goal.returns-in_default
unfolding command_from
returns-in_default c = sym (passed_over (λ (m : Maker). m.what) (λ (m : Maker). m.makes c.args.p) unnumbered makers [] c.args.p.what c.in_default.in_default-own.rest)
