use Rattle.std.proofs.Common.{◌≡◌, ◌∙◌, sym, ap, option_map, length}
use Rattle.serde_json.specs.View.{view}
use Rattle.serde_json.proofs.Views.{view-Object}
use Rattle.http_bodies.proofs.MemberLaws.{bits_read, by_digits, hex_read, not_one}
use Rattle.http_bodies.proofs.param.param.Goals as goal

pub returns-then-len-ne1 : goal.returns-then-len-ne1
returns-then-len-ne1 c =
    let is = ap view c.in-Object.is ∙ view-Object c.in-Object.members in
    rw is (not_one c.in-Object.members.entries (λ e. c.if-len-ne1.true (c.len.ensures.len ∙ e)))

pub returns-in_ok-digits-in-Object : goal.returns-in_ok-digits-in-Object
returns-in_ok-digits-in-Object c =
    let one : length c.in-Object.members.entries ≡ 1 = sym c.len.ensures.len ∙ c.if-len-ne1.false in
    by_digits _ c.in-Object.members.entries (ap view c.in-Object.is ∙ view-Object c.in-Object.members) one
    ∙ hex_read _ _ _ _ (sym c.get.ensures ∙ ap (option_map (λ v. view v.now)) c.in-Some-get.is) c.in_ok-digits-in-Object.ensures

pub returns-in_ok-digits-in-Object-2 : goal.returns-in_ok-digits-in-Object-2
returns-in_ok-digits-in-Object-2 c =
    let one : length c.in-Object.members.entries ≡ 1 = sym c.len.ensures.len ∙ c.if-len-ne1.false in
    by_digits _ c.in-Object.members.entries (ap view c.in-Object.is ∙ view-Object c.in-Object.members) one
    ∙ bits_read _ _ _ _ (sym c.get.ensures ∙ ap (option_map (λ v. view v.now)) c.in_default.is)
    (sym c.get-in_default.ensures ∙ ap (option_map (λ v. view v.now)) c.in-Some-get-2.is) c.in_ok-digits-in-Object-2.ensures
