use Rattle.serial_laws.proofs.serial.Serial.{plays_are_serial}
use Rattle.serial_laws.proofs.laws.plays_are_serial.Goals as goal

pub returns : goal.returns
returns c = plays_are_serial
