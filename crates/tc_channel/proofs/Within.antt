-- Statements about a stream that are made with the limit of its room, restated with the limit of its MAP.
use Rattle.tc_channel.proofs.Names.{◌≡◌, ℕ, List, [], ◌∷◌, ◌++◌, Option, subst, ◌∙◌, arith, Kind, Service, Bd, OpenRuns, at_most, run_at, run_left, stream_place, map_of, FollowsWithin, FollowsKindWithin, EndsWithin, EndsAtOnceWithin, Store, limit_at, open_runs}
use Rattle.tc_channel.specs.ChannelCore.{HaveLimits}
use Rattle.tc_packet.proofs.Stores.{committed-limits, committed-segmented, committed-others}
use Rattle.tc_packet.specs.Store.{LeaveWithin, committed}
use Rattle.tc_packet.specs.declared.runs.Ended.{Ended}

limit-is : (limits : ℕ → ℕ) (store : Store) (service : Service) (field : List ℕ) → HaveLimits limits store → limit_at store (stream_place service field) ≡ limits (map_of field)
limit-is limits store service field have = have service (map_of field) (omega arith)

pub follows-is : (limits : ℕ → ℕ) (store : Store) (new : OpenRuns) (service : Service) (field : List ℕ) → HaveLimits limits store
    → FollowsWithin (limit_at store (stream_place service field)) (open_runs store) new service field → FollowsWithin (limits (map_of field)) (open_runs store) new service field
follows-is limits store new service field have follows = subst (λ (n : ℕ). FollowsWithin n (open_runs store) new service field) (limit-is limits store service field have) follows

pub ends-is : (limits : ℕ → ℕ) (store : Store) (service : Service) (field : List ℕ) (unit : Option (List ℕ)) → HaveLimits limits store
    → EndsWithin (limit_at store (stream_place service field)) (open_runs store) service field unit → EndsWithin (limits (map_of field)) (open_runs store) service field unit
ends-is limits store service field unit have ends = subst (λ (n : ℕ). EndsWithin n (open_runs store) service field unit) (limit-is limits store service field have) ends

pub follows-kind-is : (limits : ℕ → ℕ) (store : Store) (kind : Kind) (new : OpenRuns) (field : List ℕ) → HaveLimits limits store
    → FollowsKindWithin (limit_at store (stream_place Bd field)) kind (open_runs store) new field → FollowsKindWithin (limits (map_of field)) kind (open_runs store) new field
follows-kind-is limits store kind new field have follows = subst (λ (n : ℕ). FollowsKindWithin n kind (open_runs store) new field) (limit-is limits store Bd field have) follows

pub ends-at-once-is : (limits : ℕ → ℕ) (store : Store) (kind : Kind) (field : List ℕ) (unit : Option (List ℕ)) → HaveLimits limits store
    → EndsAtOnceWithin (limit_at store (stream_place Bd field)) kind (open_runs store) field unit → EndsAtOnceWithin (limits (map_of field)) kind (open_runs store) field unit
ends-at-once-is limits store kind field unit have ends = subst (λ (n : ℕ). EndsAtOnceWithin n kind (open_runs store) field unit) (limit-is limits store Bd field have) ends

-- once a staged field is committed, the open run of its stream is the one that this field leaves, and the other runs
-- are unchanged
pub committed-follows : (old mid new : Store) (ended : Ended) (service : Service) (field : List ℕ) (at : ℕ) → at ≡ stream_place service field → new ≡ committed ended at mid
    → mid.segmented ≡ old.segmented → ((place : ℕ) → limit_at mid place ≡ limit_at old place)
    → ((fields : List (List ℕ)) → LeaveWithin fields old (stream_place service field) → LeaveWithin (fields ++ field ∷ []) (committed ended (stream_place service field) mid) (stream_place service field))
    → ((other : ℕ) → (other ≡ stream_place service field → ⊥) → run_at (open_runs mid).runs other ≡ run_at (open_runs old).runs other)
    → FollowsWithin (limit_at old (stream_place service field)) (open_runs old) (open_runs new) service field
committed-follows old mid new ended service field at at_is new_is segmented limits run others =
    let place = stream_place service field in
    rw (new_is, at_is) (record {
      run = λ fields left. subst (λ (n : ℕ). at_most n (run_left (committed ended place mid).segmented (fields ++ field ∷ [])) ≡ run_at (open_runs (committed ended place mid)).runs place)
          (committed-limits mid ended place place ∙ limits place) (run fields left);
      others = λ other apart. committed-others mid ended place other apart ∙ others other apart;
      segmented = committed-segmented mid ended place ∙ segmented;
    })
