use Rattle.std.proofs.Common.{sym}
use Rattle.bl_queue.proofs.Placed.{found_there}
use Rattle.bl_queue.proofs.taking.standing_of.Goals as goal

pub returns-in-Some-place_of-clause-found : goal.returns-in-Some-place_of-clause-found
returns-in-Some-place_of-clause-found c = found_there c.args.number c.args.jobs.now c.in-Some-place_of.place _ (sym c.in-Some-place_of.ensures) (λ job is. (is, tt))
