-- The replies of a channel, as records of numbers.
use Rattle.std.specs.Prelude.{◌≡◌, ◌⊎◌, ℕ, List, Result, Ok, Err}
use Rattle.tc_link.specs.Bits.{bit}
use Rattle.tc_link.specs.declared.Link.{Link}
use Rattle.tc_queues.specs.declared.reply.Delivery.{Delivery}
use Rattle.tc_queues.specs.declared.reply.FrameReply.{FrameReply}
use Rattle.tc_queues.specs.declared.settings.Settings.{Settings}
use Rattle.tc_queues.specs.declared.settings.QueueSetting.{QueueSetting}
use Rattle.tc_queues.specs.declared.settings.MapSetting.{MapSetting}
use Rattle.tc_queues.specs.declared.settings.SettingsFault.{SettingsFault}
use Rattle.tc_queues.specs.Settings.{IsAllowed, IsFault}
use Rattle.tc_fixed.specs.declared.limits.Limits.{Limits}
use Rattle.tc_fixed.specs.declared.limits.LimitsFault.{LimitsFault}
use Rattle.tc_fixed.specs.declared.limits.MapLimit.{MapLimit}
use Rattle.tc_fixed.specs.Limits.{AreLimits, IsFaultWithLimits}
use Rattle.tc_c_base.specs.declared.status.Status.{Status}
use Rattle.tc_c_base.specs.declared.status.Status.TheVariants.{Done, NoMemory}
use Rattle.tc_c.specs.declared.settings.SettingsRecord.{SettingsRecord}
use Rattle.tc_c.specs.declared.channel.ReplyRecord.{ReplyRecord}
use Rattle.tc_c.specs.declared.channel.DeliveryRecord.{DeliveryRecord}
use Rattle.tc_c.specs.declared.counts.CountRecord.{CountRecord}
use Rattle.tc_c_base.specs.Status.{code_of}
use Rattle.tc_c.specs.Status.{settings_status, limits_status}
use Rattle.tc_c.specs.Farm.{with_ok, flag_of}

-- the settings that the records stand for, or `BadFlag` if `segmented` is neither 0 nor 1
abbrev pub settings_in_records : SettingsRecord → List QueueSetting → List MapSetting → Result Settings Status
settings_in_records settings queues maps =
    with_ok (flag_of settings.segmented) (λ segmented.
    Ok (record {
      vcid = settings.vcid;
      width = settings.width;
      buffer = settings.buffer;
      first = settings.first;
      segmented = segmented;
      queues = queues;
      maps = maps;
    }))

abbrev pub link_of : ℕ → ℕ → Result Link Status
link_of no_rf no_bit_lock =
    with_ok (flag_of no_rf) (λ rf. with_ok (flag_of no_bit_lock) (λ lock. Ok (record { no_rf = rf; no_bit_lock = lock })))

abbrev pub reply_record : FrameReply → ReplyRecord
reply_record reply = record {
  status = code_of Done;
  queued = reply.delivery.queued;
  dropped = reply.delivery.dropped;
  event = reply.act.event;
  accepted = bit reply.act.accepted;
  rest = bit reply.delivery.rest;
}

abbrev pub no_reply : Status → ReplyRecord
no_reply fault = record { status = code_of fault; queued = 0; dropped = 0; event = 0; accepted = 0; rest = 0 }

abbrev pub delivery_record : Delivery → DeliveryRecord
delivery_record delivery = record { status = code_of Done; queued = delivery.queued; dropped = delivery.dropped; rest = bit delivery.rest }

abbrev pub no_delivery : Status → DeliveryRecord
no_delivery fault = record { status = code_of fault; queued = 0; dropped = 0; rest = 0 }

abbrev pub count_record : ℕ → CountRecord
count_record count = record { status = code_of Done; count = count }

abbrev pub no_count : Status → CountRecord
no_count fault = record { status = code_of fault; count = 0 }

-- the reason why no channel can be created from these records: a number that is no flag, otherwise the first fault of
-- the settings
abbrev pub IsUnfit : Result Settings Status → Status → Type 0
IsUnfit (Err flag) fault = fault ≡ flag
IsUnfit (Ok s) fault = (f : SettingsFault) × IsFault s f × (fault ≡ settings_status f)

-- the reason why no channel is created: a reason by `IsUnfit`, or `NoMemory` if the settings have no fault
abbrev pub IsRefusedBy : Result Settings Status → Status → Type 0
IsRefusedBy given fault = IsUnfit given fault ⊎ ((fault ≡ NoMemory) × (s : Settings) × (given ≡ Ok s) × IsAllowed s)

-- the limits that a number and a list stand for
abbrev pub limits_given : ℕ → List MapLimit → Limits
limits_given others maps = record { others = others; maps = maps }

-- the reason why no channel can be created from these records within these limits. It is a number that is no flag,
-- otherwise the first fault of the settings, otherwise the first fault of the limits.
abbrev pub IsUnfitWithin : Result Settings Status → Limits → Status → Type 0
IsUnfitWithin (Err flag) limits fault = fault ≡ flag
IsUnfitWithin (Ok s) limits fault = (f : LimitsFault) × IsFaultWithLimits s limits f × (fault ≡ limits_status f)

-- the reason why no channel is created within these limits: a reason by `IsUnfitWithin`, or `NoMemory` if the settings
-- and the limits have no fault
abbrev pub IsRefusedWithin : Result Settings Status → Limits → Status → Type 0
IsRefusedWithin given limits fault = IsUnfitWithin given limits fault ⊎ ((fault ≡ NoMemory) × (s : Settings) × (given ≡ Ok s) × IsAllowed s × AreLimits s limits)
