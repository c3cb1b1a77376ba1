use Rattle.chip_host.proofs.HostLemmas.{does_answer, does_after}
use Rattle.chip_host.proofs.host.ChipHost.does.Goals as goal

pub returns-in-PinInit-clause-answer : goal.returns-in-PinInit-clause-answer
returns-in-PinInit-clause-answer c = does_answer c.args.name _ c.in-PinInit.is c.args.args.now _ c.two-addr.ensures c.args.self.now c.args.memory.now _ c.pin_init.ensures.answer

pub returns-in-PinInit-clause-after : goal.returns-in-PinInit-clause-after
returns-in-PinInit-clause-after c = does_after c.args.name _ c.in-PinInit.is c.args.args.now _ c.two-addr.ensures c.args.self.now c.args.memory.now _ c.pin_init.ensures.after

pub returns-in-PinWrite-clause-answer : goal.returns-in-PinWrite-clause-answer
returns-in-PinWrite-clause-answer c = does_answer c.args.name _ c.in-PinWrite.is c.args.args.now _ c.two-i.ensures c.args.self.now c.args.memory.now _ c.pin_write.ensures.answer

pub returns-in-PinWrite-clause-after : goal.returns-in-PinWrite-clause-after
returns-in-PinWrite-clause-after c = does_after c.args.name _ c.in-PinWrite.is c.args.args.now _ c.two-i.ensures c.args.self.now c.args.memory.now _ c.pin_write.ensures.after

pub returns-in-PinWatch-clause-answer : goal.returns-in-PinWatch-clause-answer
returns-in-PinWatch-clause-answer c = does_answer c.args.name _ c.in-PinWatch.is c.args.args.now _ c.two-i-in-PinWatch.ensures c.args.self.now c.args.memory.now _ c.pin_watch.ensures.answer

pub returns-in-PinWatch-clause-after : goal.returns-in-PinWatch-clause-after
returns-in-PinWatch-clause-after c = does_after c.args.name _ c.in-PinWatch.is c.args.args.now _ c.two-i-in-PinWatch.ensures c.args.self.now c.args.memory.now _ c.pin_watch.ensures.after

pub returns-in-AttrInit-clause-answer : goal.returns-in-AttrInit-clause-answer
returns-in-AttrInit-clause-answer c = does_answer c.args.name _ c.in-AttrInit.is c.args.args.now _ c.two-addr-in-AttrInit.ensures c.args.self.now c.args.memory.now _ c.attr_init.ensures.answer

pub returns-in-AttrInit-clause-after : goal.returns-in-AttrInit-clause-after
returns-in-AttrInit-clause-after c = does_after c.args.name _ c.in-AttrInit.is c.args.args.now _ c.two-addr-in-AttrInit.ensures c.args.self.now c.args.memory.now _ c.attr_init.ensures.after

pub returns-in-TimerInit-clause-answer : goal.returns-in-TimerInit-clause-answer
returns-in-TimerInit-clause-answer c = does_answer c.args.name _ c.in-TimerInit.is c.args.args.now _ c.one-in-TimerInit.ensures c.args.self.now c.args.memory.now _ c.timer_init.ensures.answer

pub returns-in-TimerInit-clause-after : goal.returns-in-TimerInit-clause-after
returns-in-TimerInit-clause-after c = does_after c.args.name _ c.in-TimerInit.is c.args.args.now _ c.one-in-TimerInit.ensures c.args.self.now c.args.memory.now _ c.timer_init.ensures.after

pub returns-in-TimerStart-clause-answer : goal.returns-in-TimerStart-clause-answer
returns-in-TimerStart-clause-answer c = does_answer c.args.name _ c.in-TimerStart.is c.args.args.now _ c.three-id.ensures c.args.self.now c.args.memory.now _ c.timer_start.ensures.answer

pub returns-in-TimerStart-clause-after : goal.returns-in-TimerStart-clause-after
returns-in-TimerStart-clause-after c = does_after c.args.name _ c.in-TimerStart.is c.args.args.now _ c.three-id.ensures c.args.self.now c.args.memory.now _ c.timer_start.ensures.after

pub returns-in-PinMode-clause-answer : goal.returns-in-PinMode-clause-answer
returns-in-PinMode-clause-answer c = does_answer c.args.name _ c.in-PinMode.is c.args.args.now _ c.two-i-in-PinMode.ensures c.args.self.now c.args.memory.now _ c.pin_mode.ensures.answer

pub returns-in-PinMode-clause-after : goal.returns-in-PinMode-clause-after
returns-in-PinMode-clause-after c = does_after c.args.name _ c.in-PinMode.is c.args.args.now _ c.two-i-in-PinMode.ensures c.args.self.now c.args.memory.now _ c.pin_mode.ensures.after

pub returns-in-PinWatchStop-clause-answer : goal.returns-in-PinWatchStop-clause-answer
returns-in-PinWatchStop-clause-answer c = does_answer c.args.name _ c.in-PinWatchStop.is c.args.args.now _ c.one-in-PinWatchStop.ensures c.args.self.now c.args.memory.now _ c.pin_watch_stop.ensures.answer

pub returns-in-PinWatchStop-clause-after : goal.returns-in-PinWatchStop-clause-after
returns-in-PinWatchStop-clause-after c = does_after c.args.name _ c.in-PinWatchStop.is c.args.args.now _ c.one-in-PinWatchStop.ensures c.args.self.now c.args.memory.now _ c.pin_watch_stop.ensures.after

pub returns-in-TimerStartNanos-clause-answer : goal.returns-in-TimerStartNanos-clause-answer
returns-in-TimerStartNanos-clause-answer c = does_answer c.args.name _ c.in-TimerStartNanos.is c.args.args.now _ c.with_long-id.ensures c.args.self.now c.args.memory.now _ c.timer_start-in-TimerStartNanos.ensures.answer

pub returns-in-TimerStartNanos-clause-after : goal.returns-in-TimerStartNanos-clause-after
returns-in-TimerStartNanos-clause-after c = does_after c.args.name _ c.in-TimerStartNanos.is c.args.args.now _ c.with_long-id.ensures c.args.self.now c.args.memory.now _ c.timer_start-in-TimerStartNanos.ensures.after

pub returns-in-TimerStop-clause-answer : goal.returns-in-TimerStop-clause-answer
returns-in-TimerStop-clause-answer c = does_answer c.args.name _ c.in-TimerStop.is c.args.args.now _ c.one-in-TimerStop.ensures c.args.self.now c.args.memory.now _ c.timer_stop.ensures.answer

pub returns-in-TimerStop-clause-after : goal.returns-in-TimerStop-clause-after
returns-in-TimerStop-clause-after c = does_after c.args.name _ c.in-TimerStop.is c.args.args.now _ c.one-in-TimerStop.ensures c.args.self.now c.args.memory.now _ c.timer_stop.ensures.after

pub returns-in-UartInit-clause-answer : goal.returns-in-UartInit-clause-answer
returns-in-UartInit-clause-answer c = does_answer c.args.name _ c.in-UartInit.is c.args.args.now _ c.one-in-UartInit.ensures c.args.self.now c.args.memory.now _ c.uart_init.ensures.answer

pub returns-in-UartInit-clause-after : goal.returns-in-UartInit-clause-after
returns-in-UartInit-clause-after c = does_after c.args.name _ c.in-UartInit.is c.args.args.now _ c.one-in-UartInit.ensures c.args.self.now c.args.memory.now _ c.uart_init.ensures.after

pub returns-in-UartWrite-clause-answer : goal.returns-in-UartWrite-clause-answer
returns-in-UartWrite-clause-answer c = does_answer c.args.name _ c.in-UartWrite.is c.args.args.now _ c.three-id-in-UartWrite.ensures c.args.self.now c.args.memory.now _ c.uart_write.ensures.answer

pub returns-in-UartWrite-clause-after : goal.returns-in-UartWrite-clause-after
returns-in-UartWrite-clause-after c = does_after c.args.name _ c.in-UartWrite.is c.args.args.now _ c.three-id-in-UartWrite.ensures c.args.self.now c.args.memory.now _ c.uart_write.ensures.after

pub returns-in-SpiInit-clause-answer : goal.returns-in-SpiInit-clause-answer
returns-in-SpiInit-clause-answer c = does_answer c.args.name _ c.in-SpiInit.is c.args.args.now _ c.one-in-SpiInit.ensures c.args.self.now c.args.memory.now _ c.spi_init.ensures.answer

pub returns-in-SpiInit-clause-after : goal.returns-in-SpiInit-clause-after
returns-in-SpiInit-clause-after c = does_after c.args.name _ c.in-SpiInit.is c.args.args.now _ c.one-in-SpiInit.ensures c.args.self.now c.args.memory.now _ c.spi_init.ensures.after

pub returns-in-SpiStart-clause-answer : goal.returns-in-SpiStart-clause-answer
returns-in-SpiStart-clause-answer c = does_answer c.args.name _ c.in-SpiStart.is c.args.args.now _ c.three-id-in-SpiStart.ensures c.args.self.now c.args.memory.now _ c.spi_start.ensures.answer

pub returns-in-SpiStart-clause-after : goal.returns-in-SpiStart-clause-after
returns-in-SpiStart-clause-after c = does_after c.args.name _ c.in-SpiStart.is c.args.args.now _ c.three-id-in-SpiStart.ensures c.args.self.now c.args.memory.now _ c.spi_start.ensures.after

pub returns-in-SpiStop-clause-answer : goal.returns-in-SpiStop-clause-answer
returns-in-SpiStop-clause-answer c = does_answer c.args.name _ c.in-SpiStop.is c.args.args.now _ c.one-in-SpiStop.ensures c.args.self.now c.args.memory.now _ c.spi_stop.ensures.answer

pub returns-in-SpiStop-clause-after : goal.returns-in-SpiStop-clause-after
returns-in-SpiStop-clause-after c = does_after c.args.name _ c.in-SpiStop.is c.args.args.now _ c.one-in-SpiStop.ensures c.args.self.now c.args.memory.now _ c.spi_stop.ensures.after

pub returns-in-I2cInit-clause-answer : goal.returns-in-I2cInit-clause-answer
returns-in-I2cInit-clause-answer c = does_answer c.args.name _ c.in-I2cInit.is c.args.args.now _ c.one-in-I2cInit.ensures c.args.self.now c.args.memory.now _ c.i2c_init.ensures.answer

pub returns-in-I2cInit-clause-after : goal.returns-in-I2cInit-clause-after
returns-in-I2cInit-clause-after c = does_after c.args.name _ c.in-I2cInit.is c.args.args.now _ c.one-in-I2cInit.ensures c.args.self.now c.args.memory.now _ c.i2c_init.ensures.after
