use Rattle.std.proofs.Common.{arith}
use Rattle.rds_world.proofs.Delivered.{any_text_delivered, name_delivered, text_delivered}
use Rattle.rds_world.proofs.StationDelivered as station
use Rattle.rds_world.proofs.StationDelivered.{DeliveryLaws}
use Rattle.rds_world.proofs.station_laws.on_air_is_delivered.Goals as goal

laws_of : goal.After-on_air_is_sent_whole → DeliveryLaws
laws_of c = grind arith

pub returns-clause-text : goal.returns-clause-text
returns-clause-text c = text_delivered (station.text_delivered (laws_of c))

pub returns-clause-any_text : goal.returns-clause-any_text
returns-clause-any_text c = any_text_delivered (station.any_text_delivered (laws_of c))

pub returns-clause-name : goal.returns-clause-name
returns-clause-name c = name_delivered (station.name_delivered (laws_of c))

pub returns-clause-station_text : goal.returns-clause-station_text
returns-clause-station_text c = station.text_delivered (laws_of c)

pub returns-clause-station_any_text : goal.returns-clause-station_any_text
returns-clause-station_any_text c = station.any_text_delivered (laws_of c)

pub returns-clause-station_name : goal.returns-clause-station_name
returns-clause-station_name c = station.name_delivered (laws_of c)
