-- What all calls of a kind promise alike, on a store of pages or on the device below.
use Rattle.std.specs.Prelude.{◌≡◌, ◌↔◌, Result}
use Rattle.sect_dev.specs.Device.{HasCause}
use Rattle.sect_dev.specs.declared.device.DevFault.{DevFault}
use Rattle.sect_dev.specs.declared.device.SectorDev.{Ghosts as DeviceGhosts}
use Rattle.page_io.specs.Answers.{HasDeviceCause}
use Rattle.page_io.specs.Views.{StagesOnly, ReadsOnly}
use Rattle.page_io.specs.declared.store.PageFault.{PageFault}
use Rattle.page_io.specs.declared.store.PageStore.{Ghosts}

-- A call that reads pages does no more, and Device has its cause.
pub record IsReadingCall {S T : Type 0} (s : Ghosts S) (old new : S)
    (result : Result T PageFault) : Type 0 where
  pub only : ReadsOnly s old new
  pub cause : HasDeviceCause (s.faults old) (s.faults new) result

-- One that stages pages may read some too, and does no more.
pub record IsStagingCall {S T : Type 0} (s : Ghosts S) (old new : S)
    (result : Result T PageFault) : Type 0 where
  pub only : StagesOnly s old new
  pub cause : HasDeviceCause (s.faults old) (s.faults new) result

-- A call on a device leaves its size and its honesty, and a refusal has its cause.
pub record IsDeviceCall {D T : Type 0} (dev : DeviceGhosts D) (old new : D)
    (result : Result T DevFault) : Type 0 where
  pub honesty : dev.honest new ↔ dev.honest old
  pub cause : HasCause (dev.faults old) (dev.faults new) result
  pub size : dev.sectors new ≡ dev.sectors old
