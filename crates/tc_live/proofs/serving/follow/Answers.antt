use Rattle.tc_live.proofs.serving.follow.Goals as goal

pub returns-in-Delivery : goal.returns-in-Delivery
returns-in-Delivery g c = rw c.in-Delivery.is c.hand_on.ensures

pub returns-in-Collection : goal.returns-in-Collection
returns-in-Collection g c = rw c.in-Collection.is c.hand_on-in-Collection.ensures
