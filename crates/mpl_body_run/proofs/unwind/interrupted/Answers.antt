use Rattle.std.proofs.Common.{◌≡◌, IfOk, Result, Ok, Err, ap, sym, ◌∙◌}
use Rattle.mpl_value.specs.CallAnswers.{arg_of_result}
use Rattle.mpl_body_code.specs.Machine.{at_stop, item_of, resumed}
use Rattle.mpl_body_run.specs.Seen.{body_seen, callers_seen, frame_seen}
use Rattle.mpl_body_run.specs.SeenItems.{item_seen}
use Rattle.mpl_body_run.proofs.Unwinding.{goes_on}
use Rattle.mpl_body_run.proofs.unwind.interrupted.Goals as goal

if_ok : {T E : Type 0} {P Q : T → Type 0} (r : Result T E) → ((x : T) → P x → Q x) → IfOk r P → IfOk r Q
if_ok (Ok x) f h = f x h
if_ok (Err e) f h = h

pub returns-in_ok-item-in-Some : goal.returns-in_ok-item-in-Some
returns-in_ok-item-in-Some c =
    let item : item_seen c.in_ok-item-in-Some.item ≡ item_of (arg_of_result (at_stop c.args.body.finish c.args.at c.args.body.result)) = c.in_ok-item-in-Some.ensures ∙ ap (λ r. item_of (arg_of_result r)) c.at_stop.ensures in
    if_ok c.resumed.result
    (λ next h.
    c.in-Some.ensures.behind c.args.at (body_seen c.args.body) c.args.turns
    ∙ (goes_on c.args.at _ _ c.requires
    ∙ (ap (λ i. resumed (frame_seen c.in-Some.frame) i (body_seen c.in-Some.outer) (callers_seen c.caller_of.new.callers.items) c.args.turns) (sym item)
    ∙ h c.caller_of.new.callers.items c.args.turns)))
    c.resumed.ensures
