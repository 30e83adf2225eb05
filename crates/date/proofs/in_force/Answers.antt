-- Each answer is the era in which the day lies, by the tests that led to it; before the first and after the last there is none.
-- Assumes nothing.
use mathlib.Core.Path.{refl, sym}
use mathlib.Core.Logic.{inl, inr}
use native.Mathlib.Omega.{arith}
use Rattle.date.proofs.Eras.{only, outside}
use Rattle.date.proofs.in_force.Goals as goal

pub returns-then-on-ge-REIWA_OVER : goal.returns-then-on-ge-REIWA_OVER
returns-then-on-ge-REIWA_OVER c =
    let a = c.args in
    let e = c.day_number-on.ensures in
    sym (outside a.year a.month a.day (λ s. omega (arith, s.upto, e, c.if-on-ge-REIWA_OVER.true)))

pub returns-then-on-ge-REIWA_FIRST : goal.returns-then-on-ge-REIWA_FIRST
returns-then-on-ge-REIWA_FIRST c =
    let a = c.args in
    let e = c.day_number-on.ensures in
    only a.year a.month a.day 5 (inr (inr (inr (inr (inl (refl, omega (arith, e, c.if-on-ge-REIWA_FIRST.true), omega (arith, e, c.if-on-ge-REIWA_OVER.false)))))))

pub returns-then-on-ge-HEISEI_FIRST : goal.returns-then-on-ge-HEISEI_FIRST
returns-then-on-ge-HEISEI_FIRST c =
    let a = c.args in
    let e = c.day_number-on.ensures in
    only a.year a.month a.day 4 (inr (inr (inr (inl (refl, omega (arith, e, c.if-on-ge-HEISEI_FIRST.true), omega (arith, e, c.if-on-ge-REIWA_FIRST.false))))))

pub returns-then-on-ge-SHOWA_FIRST : goal.returns-then-on-ge-SHOWA_FIRST
returns-then-on-ge-SHOWA_FIRST c =
    let a = c.args in
    let e = c.day_number-on.ensures in
    only a.year a.month a.day 3 (inr (inr (inl (refl, omega (arith, e, c.if-on-ge-SHOWA_FIRST.true), omega (arith, e, c.if-on-ge-HEISEI_FIRST.false)))))

pub returns-then-on-ge-TAISHO_FIRST : goal.returns-then-on-ge-TAISHO_FIRST
returns-then-on-ge-TAISHO_FIRST c =
    let a = c.args in
    let e = c.day_number-on.ensures in
    only a.year a.month a.day 2 (inr (inl (refl, omega (arith, e, c.if-on-ge-TAISHO_FIRST.true), omega (arith, e, c.if-on-ge-SHOWA_FIRST.false))))

pub returns-then-on-ge-MEIJI_FIRST : goal.returns-then-on-ge-MEIJI_FIRST
returns-then-on-ge-MEIJI_FIRST c =
    let a = c.args in
    let e = c.day_number-on.ensures in
    only a.year a.month a.day 1 (inl (refl, omega (arith, e, c.if-on-ge-MEIJI_FIRST.true), omega (arith, e, c.if-on-ge-TAISHO_FIRST.false)))

pub returns : goal.returns
returns c =
    let a = c.args in
    let e = c.day_number-on.ensures in
    sym (outside a.year a.month a.day (λ s. omega (arith, s.from, e, c.if-on-ge-MEIJI_FIRST.false)))
